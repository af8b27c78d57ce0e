-- What follows of an outcome from what is said of it.
use Rattle.std.specs.Prelude.{Result, Ok, Err, OnOk, IfOk}

pub on_ok_map : {X E P Q : Type 0} (r : Result X E) → (P → Q) → OnOk r P → OnOk r Q
on_ok_map (Ok x) f p = f p
on_ok_map (Err e) f p = tt

pub both_ok : {X E P Q S : Type 0} (r : Result X E) → (P → Q → S) → OnOk r P → OnOk r Q → OnOk r S
both_ok (Ok x) f p q = f p q
both_ok (Err e) f p q = tt

pub always_ok : {X E P : Type 0} (r : Result X E) → P → OnOk r P
always_ok (Ok x) p = p
always_ok (Err e) p = tt

pub four_ok : {X E P Q R S A : Type 0} (r : Result X E) → (P → Q → R → S → A) → OnOk r P → OnOk r Q → OnOk r R → OnOk r S → OnOk r A
four_ok (Ok x) f p q r s = f p q r s
four_ok (Err e) f p q r s = tt

pub if_ok_map : {X E : Type 0} {P Q : X → Type 0} (r : Result X E) → ((x : X) → P x → Q x) → IfOk r P → IfOk r Q
if_ok_map (Ok x) f p = f x p
if_ok_map (Err e) f p = tt
