-- The parts of a map that a contract sees, by its fields.
use Rattle.std.proofs.Common.{◌≡◌, ◌+◌, ◌-◌, ◌*◌, ◌%◌, ◌^◌, sym, ap, ◌∙◌, inl, inr, arith}
use Rattle.std.specs.Vec.{vec_len}
use Rattle.sparse_map.specs.declared.map.SparseMap.TheInside.{Inside}
use Rattle.sparse_map.specs.Home.{buckets_for, IsTableSize}
use Rattle.sparse_map.specs.Groups.{slots_of, lists_for}
use Rattle.sparse_map.specs.Packed.{PackedTable, len_of, buckets_of, lists_of, memory_of, IsSound}
use Rattle.sparse_map.specs.Kept.{KeepsTable}
use Rattle.sparse_map.specs.Places.{sizes_of, places_of, loose_of}
use Rattle.sparse_map.specs.Seen.{more_free, seen_of}
use Rattle.sparse_map.proofs.HomeLemmas.{sized, halves, some_buckets, no_buckets}
use Rattle.sparse_map.proofs.MapLemmas.{kept_len, kept_sound, kept_long}
use Rattle.std.proofs.lemmas.Bool.{cases_eq}

module _ {V : Type 0} (m : Inside V) (t : PackedTable V) (kept : KeepsTable m.bits m.len m.spare (vec_len m.stock) m.touched m.groups.items)
    (is : ◌≡◌ {A = PackedTable V} (seen_of m.bits m.groups.items m.spare (vec_len m.stock) m.touched m.peak) t) where
  pub seen_sound : IsSound t
  seen_sound = kept_sound m.bits m.len m.spare (vec_len m.stock) m.touched m.groups.items kept t (sym (ap (λ (x : PackedTable V). x.slots) is)) (sym (ap (λ (x : PackedTable V). x.spare) is))
      (sym (ap (λ (x : PackedTable V). x.places) is)) (sym (ap (λ (x : PackedTable V). x.blanks) is))

  pub seen_len : m.len ≡ len_of t
  seen_len = sym (kept_len m.bits m.len m.spare (vec_len m.stock) m.touched m.groups.items kept t (sym (ap (λ (x : PackedTable V). x.slots) is)))

  pub seen_slots : slots_of (buckets_for m.bits) m.groups.items ≡ t.slots
  seen_slots = ap (λ (x : PackedTable V). x.slots) is

  pub seen_spare : m.spare ≡ t.spare
  seen_spare = ap (λ (x : PackedTable V). x.spare) is

  pub seen_places : places_of (sizes_of m.groups.items) ≡ t.places
  seen_places = ap (λ (x : PackedTable V). x.places) is

  pub seen_blanks : vec_len m.stock ≡ t.blanks
  seen_blanks = ap (λ (x : PackedTable V). x.blanks) is

  pub seen_loose : loose_of m.touched (sizes_of m.groups.items) - more_free (buckets_for m.bits) ≡ t.loose
  seen_loose = ap (λ (x : PackedTable V). x.loose) is

  pub seen_peak : m.peak ≡ t.peak
  seen_peak = ap (λ (x : PackedTable V). x.peak) is

  pub seen_memory : places_of (sizes_of m.groups.items) + 64 * vec_len m.stock ≡ memory_of t
  seen_memory = ap memory_of is

  pub seen_buckets : buckets_for m.bits ≡ buckets_of t
  seen_buckets = sym (kept_long m.bits m.len m.spare (vec_len m.stock) m.touched m.groups.items kept) ∙ ap buckets_of is

  pub seen_lists : vec_len m.groups ≡ lists_of t
  seen_lists = m.groups.ok.0 ∙ kept.table.count ∙ ap lists_for seen_buckets

  pub seen_halves : buckets_for m.bits % 32 ≡ 0
  seen_halves = elim (cases_eq m.bits 0) [
    | inl none ↦ omega (arith, no_buckets m.bits none)
    | inr some ↦
        let size : IsTableSize m.bits = record { many = kept.many (omega arith); few = kept.few } in
        omega (arith, halves (2 ^ m.bits) (sized m.bits size), some_buckets m.bits (omega arith))
  ]
