-- What holds of an answer that is no error, taken on.
use Rattle.std.proofs.Common.{◌≡◌, false, Option, Some, None, Ok, Err, refl}
use Rattle.std.specs.Prelude.{Result, OnOk, IfOk, is_some}

pub on_ok_map : {X E P Q : Type 0} (r : Result X E) → (P → Q) → OnOk r P → OnOk r Q
on_ok_map (Ok x) f p = f p
on_ok_map (Err e) f p = tt

pub if_ok_map : {X E : Type 0} {P Q : X → Type 0} (r : Result X E) → ((x : X) → P x → Q x) → IfOk r P → IfOk r Q
if_ok_map (Ok x) f p = f x p
if_ok_map (Err e) f p = tt

pub none_from : {X : Type 0} (o : Option X) → is_some o ≡ false → o ≡ None
none_from None e = refl
none_from (Some x) e = cc
