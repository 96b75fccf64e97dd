-- An error on the way of a loading is an error of the loading.
use Rattle.std.proofs.Common.{◌≡◌, Bool, true, false, cond, Result, Ok, Err, sym, ap, subst}
use Rattle.ft_base.specs.declared.geometry.Geometry.{Geometry}
use Rattle.cache_model.specs.Loading.{Refusal, ◌>>=◌}
use Rattle.op_log.specs.declared.error.OpenError.{OpenError}
use Rattle.op_log.specs.declared.error.OpenError.TheVariants.{NotFormatted, OtherGeometry, Damaged, FlashFault, DiskFault, PowerLost, OutOfMemory}
use Rattle.op_log.specs.Refusals.{IsRefusal}

-- a step that failed ends all steps after it
pub bind_refused : {A B : Type 0} (g : Geometry) (e : OpenError) (r : Result A Refusal) (f : A → Result B Refusal) → IsRefusal g e r → IsRefusal g e (r >>= f)
bind_refused g NotFormatted r f is = ap (λ x. x >>= f) is
bind_refused g (OtherGeometry found wanted) r f is = (ap (λ x. x >>= f) is.0, is.1)
bind_refused g (Damaged block page) r f is = ap (λ x. x >>= f) is
bind_refused g FlashFault r f is = is
bind_refused g DiskFault r f is = is
bind_refused g PowerLost r f is = is
bind_refused g OutOfMemory r f is = is

-- so does a step that failed after steps that didn't
pub then_refused : {A B : Type 0} (g : Geometry) (e : OpenError) (r : Result A Refusal) (x : A) (f : A → Result B Refusal) → r ≡ Ok x → IsRefusal g e (f x) → IsRefusal g e (r >>= f)
then_refused g e r x f ok is = subst (λ s. IsRefusal g e (s >>= f)) (sym ok) is

-- a step that loading doesn't refuse fails only with errors that come by themselves
none_refused : {A B : Type 0} (g : Geometry) (e : OpenError) (x : A) (r : Result B Refusal) → IsRefusal {A = A} g e (Ok x) → IsRefusal g e r
none_refused g NotFormatted x r is = absurd (cc)
none_refused g (OtherGeometry found wanted) x r is = absurd (let no = is.0 in cc)
none_refused g (Damaged block page) x r is = absurd (cc)
none_refused g FlashFault x r is = is
none_refused g DiskFault x r is = is
none_refused g PowerLost x r is = is
none_refused g OutOfMemory x r is = is

same_refusal : (A B : Type 0) (g : Geometry) (e : OpenError) (d : Refusal) → IsRefusal {A = A} g e (Err d) → IsRefusal {A = B} g e (Err d)
same_refusal A B g NotFormatted d is = cc
same_refusal A B g (OtherGeometry found wanted) d is = let no = is.0 in (cc, is.1)
same_refusal A B g (Damaged block page) d is = cc
same_refusal A B g FlashFault d is = is
same_refusal A B g DiskFault d is = is
same_refusal A B g PowerLost d is = is
same_refusal A B g OutOfMemory d is = is

-- a test that refuses, whatever comes after it
pub test_refused : {A B : Type 0} (g : Geometry) (e : OpenError) (b : Bool) (x : A) (r : Result B Refusal) (d : Refusal) → IsRefusal {A = A} g e (cond b (Ok x) (Err d)) → IsRefusal g e (cond b r (Err d))
test_refused {A} {B} g e true x r d is = none_refused g e x r is
test_refused {A} {B} g e false x r d is = same_refusal A B g e d is
