-- The meaning of a clause for a result that is `Ok`.
use Rattle.std.proofs.Common.{◌≡◌, Result, Ok, Err, OnOk, IfOk, refl}

pub on_ok_from : {T E P : Type 0} (r : Result T E) → ((v : T) → r ≡ Ok v → P) → OnOk r P
on_ok_from (Ok v) f = f v refl
on_ok_from (Err e) f = tt

pub if_ok_from : {T E : Type 0} {P : T → Type 0} (r : Result T E) → ((v : T) → r ≡ Ok v → P v) → IfOk r P
if_ok_from (Ok v) f = f v refl
if_ok_from (Err e) f = tt

pub ok_at : {T E P : Type 0} (r : Result T E) (v : T) → r ≡ Ok v → OnOk r P → P
ok_at (Ok w) v is h = h
ok_at (Err e) v is h = absurd (cc)
