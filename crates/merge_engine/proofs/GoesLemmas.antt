-- Steps one after another.
use Rattle.std.proofs.Common.{◌≡◌, ◌<◌, List, [], length, inl, inr, sym, ◌∙◌, ap, subst, arith}
use Rattle.ft_base.specs.declared.geometry.Geometry.{Geometry}
use Rattle.ft_base.specs.declared.block.Place.{Place}
use Rattle.ft_base.specs.declared.block.Page.{Page}
use Rattle.ft_base.specs.declared.record.Record.{Record}
use Rattle.ft_base.specs.Layout.{page_records}
use Rattle.ft_base.proofs.LayoutLemmas.{q_some}
use Rattle.cache_model.specs.CacheList.{CacheList}
use Rattle.op_log.specs.Log.{LogValue}
use Rattle.merge_engine.specs.declared.parts.Parts.{Parts}
use Rattle.merge_engine.specs.Agreement.{Lists}
use Rattle.merge_engine.specs.Room.{GivesRoom, FlashStandsForGiven}
use Rattle.merge_engine.specs.Steps.{GoesOn}
use Rattle.merge_engine.proofs.BesideLemmas.{lists_as}
use Rattle.merge_engine.proofs.RoomLemmas.{gives_again}

-- if nothing is buffered, one more record may be buffered
pub room_for_one : (log : LogValue) → log.buffered ≡ [] → length log.buffered < page_records log.geometry
room_for_one log none =
    let count : length log.buffered ≡ 0 = ap (λ (l : List Record). length l) none in
    omega (arith, q_some log.geometry)

-- the roles of the parts may change
pub goes_as : (log : LogValue) (p q : Parts) (page : Place → Page) (list durable : CacheList) → q.map ≡ p.map → q.geometry ≡ p.geometry → q.log ≡ p.log → GoesOn log p page list durable → GoesOn log q page list durable
goes_as log p q page list durable map_is geometry_is log_is (inl same) = inl (log_is ∙ same.0, lists_as p q page list durable map_is geometry_is same.1)
goes_as log p q page list durable map_is geometry_is log_is (inr gone) = inr (
  ap (λ (l : LogValue). l.buffered) log_is ∙ gone.0,
  (gone.1.0, subst (λ (h : Geometry). GivesRoom h list gone.1.0) (sym geometry_is) gone.1.1, lists_as p q page gone.1.0 gone.1.0 map_is geometry_is gone.1.2),
)

module _ (log : LogValue) (mid : Parts) (page : Place → Page) (g : Geometry) (is : mid.geometry ≡ g) (list durable : CacheList) where
  -- the state that a later step may leave, whatever it answers
  pub given_then : (page' : Place → Page) → GoesOn log mid page list durable → ((l d : CacheList) → Lists mid page l d → FlashStandsForGiven mid.geometry page' d l) → FlashStandsForGiven g page' durable list
  given_then page' (inl same) later = subst (λ (h : Geometry). FlashStandsForGiven h page' durable list) is (later list durable same.1)
  given_then page' (inr gone) later = subst (λ (h : Geometry). FlashStandsForGiven h page' durable list) is (from (later gone.1.0 gone.1.0 gone.1.2))
    where
      from : FlashStandsForGiven mid.geometry page' gone.1.0 gone.1.0 → FlashStandsForGiven mid.geometry page' durable list
      from (inl stands) = inr (gone.1.0, gone.1.1, stands)
      from (inr w) = inr (w.0, gives_again mid.geometry list gone.1.0 w.0 gone.1.1 w.1, w.2)

  -- the state that it leaves
  pub goes_then : (new : Parts) (page' : Place → Page) → new.geometry ≡ g → GoesOn log mid page list durable → ((l d : CacheList) → Lists mid page l d → GoesOn mid.log new page' l d) → GoesOn log new page' list durable
  goes_then new page' same_geometry (inl same) later = from (later list durable same.1)
    where
      from : GoesOn mid.log new page' list durable → GoesOn log new page' list durable
      from (inl on) = inl (on.0 ∙ same.0, on.1)
      from (inr gone) = inr gone
  goes_then new page' same_geometry (inr gone) later = from (later gone.1.0 gone.1.0 gone.1.2)
    where
      geometries : mid.geometry ≡ new.geometry
      geometries = is ∙ sym same_geometry

      from : GoesOn mid.log new page' gone.1.0 gone.1.0 → GoesOn log new page' list durable
      from (inl on) = inr (ap (λ (l : LogValue). l.buffered) on.0 ∙ gone.0, (gone.1.0, subst (λ (h : Geometry). GivesRoom h list gone.1.0) geometries gone.1.1, on.1))
      from (inr more) = inr (more.0, (more.1.0, gives_again new.geometry list gone.1.0 more.1.0 (subst (λ (h : Geometry). GivesRoom h list gone.1.0) geometries gone.1.1) more.1.1, more.1.2))

  -- the list for which the flash then stands
  pub given_from : GoesOn log mid page list durable → FlashStandsForGiven g page durable list
  given_from goes = given_then page goes (λ l d lists. inl lists.stands)
