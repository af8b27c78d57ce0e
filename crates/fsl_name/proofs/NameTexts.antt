-- What a text is as a name.
use Rattle.std.proofs.Common.{◌≡◌, ℕ, Bool, true, false, not, ◌&&◌, cond, List, length, Some, None, Ok, Err, refl}
use Rattle.std.specs.Prelude.{◌==◌}
use Rattle.fsl_name.specs.Name.{name_in, name_read}
use Rattle.fsl_name.specs.declared.NameFault.{NameFault}

name_by : (long digits : Bool) (e f : NameFault) (n m : List ℕ) → Ok m ≡ cond (not long) (Err e) (cond (not digits) (Err f) (Ok n)) → cond (long && digits) (Some n) None ≡ Some m
name_by true true e f n m h = cc
name_by true false e f n m h = cc
name_by false digits e f n m h = cc

no_name_by : (long digits : Bool) (e f g : NameFault) (n : List ℕ) → Err g ≡ cond (not long) (Err e) (cond (not digits) (Err f) (Ok n)) → cond (long && digits) (Some n) None ≡ None
no_name_by true true e f g n h = cc
no_name_by true false e f g n h = refl
no_name_by false digits e f g n h = refl

pub name_of_text : (text name : List ℕ) → Ok name ≡ name_read text → name_in text ≡ Some name
name_of_text text name h = name_by (length text == 40) _ _ _ _ name h

pub no_name_of_text : (text : List ℕ) (e : NameFault) → Err e ≡ name_read text → name_in text ≡ None
no_name_of_text text e h = no_name_by (length text == 40) _ _ _ e _ h
