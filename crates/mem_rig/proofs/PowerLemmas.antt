-- The front stop is dropped, and how power changes in each device write.
use Rattle.std.proofs.Common.{◌≡◌, ℕ, zero, suc, ◌-◌, ◌<◌, ◌≤◌, List, [], ◌∷◌, ◌++◌, length, take, drop, refl, sym, ◌∙◌, ap, arith, append_assoc, Bool, true, false}
use Rattle.std.proofs.lemmas.List.{take_at, length-take}
use Rattle.ft_base.specs.declared.power.Stop.{Stop}
use Rattle.ft_media.specs.State.{Power}
use Rattle.device_calls.specs.Calls.{ending_of}
use Rattle.disk_model.specs.Steps.{TakesMemory}
use Rattle.mem_rig.specs.Power.{current_of, power_after_write, PowerLeft}

pub front_goes : (room rotated : List Stop) (armed : ℕ) → 0 < armed → armed ≤ length room → rotated ≡ drop 1 (take armed room) ++ take 1 (take armed room) → (front : Stop) × (take armed room ≡ front ∷ take (armed - 1) (rotated ++ drop armed room))
front_goes [] rotated armed some few is = absurd (omega arith)
front_goes (x ∷ xs) rotated zero some few is = absurd (omega arith)
front_goes (x ∷ xs) rotated (suc n) some few is =
    let one : suc n - 1 ≡ n = omega arith in
    let all : rotated ++ drop n xs ≡ take n xs ++ ((x ∷ []) ++ drop n xs) = ap (λ l. l ++ drop n xs) is ∙ append_assoc (take n xs) (x ∷ []) (drop n xs) in
    let long : length (take n xs) ≡ n = grind (arith, length-take {A = Stop}) in
    (x, ap (λ l. x ∷ l) (sym (ap (λ k. take k (rotated ++ drop n xs)) one ∙ ap (take n) all ∙ take_at (take n xs) ((x ∷ []) ++ drop n xs) n long)))

-- power after a device write, however the write ends
left : (on : Bool) (stops : List Stop) (rest : ℕ) (listed : Bool) → let power : Power = record { on = on; stops = stops; rest = rest } in PowerLeft (ending_of (current_of power) listed) power (power_after_write power)
left false stops rest listed = (refl, refl)
left true [] rest true = record { was_on = refl; on = refl; stops = refl; rest = λ some. absurd (some refl) }
left true [] rest false = record { was_on = refl; on = refl; stops = refl; rest = λ some. absurd (some refl) }
left true (front ∷ later) zero listed = record { was_on = refl; on = refl; front = front; stops = refl; outcome = refl; due = refl; rest = refl }
left true (front ∷ later) (suc rest) true = record { was_on = refl; on = refl; stops = refl; rest = λ some. omega arith }
left true (front ∷ later) (suc rest) false = record { was_on = refl; on = refl; stops = refl; rest = λ some. omega arith }

pub power_left : (power : Power) (listed : Bool) → PowerLeft (ending_of (current_of power) listed) power (power_after_write power)
power_left power listed = left power.on power.stops power.rest listed

-- a block write takes memory only if power is on
on_where : (on : Bool) (stops : List Stop) (rest : ℕ) (listed : Bool) → TakesMemory (ending_of (current_of (record { on = on; stops = stops; rest = rest })) listed) → on ≡ true
on_where true stops rest listed takes = refl
on_where false stops rest listed takes = absurd takes

pub on_where_it_takes : (power : Power) (listed : Bool) → TakesMemory (ending_of (current_of power) listed) → power.on ≡ true
on_where_it_takes power listed takes = on_where power.on power.stops power.rest listed takes
