-- The text of an entry is small enough for an artifact.
use Rattle.std.proofs.Common.{◌≡◌, ℕ, ◌*◌, ◌≤◌, ◌^◌, Bool, true, false, cond, List, [], ◌∷◌, ◌++◌, length, length-append, Option, Some, None, refl, arith}
use Rattle.std.specs.Prelude.{◌==◌, ◌||◌, codes, nat_le}
use Rattle.std.specs.Cmp.Lexicographic.{pointwise}
use Rattle.std.proofs.lemmas.Bool.{eqb-true}
use Rattle.fsl_order.proofs.Booleans.{first_holds, second_holds}
use Rattle.fsl_text.specs.Escapes.{escape, escaped_byte}
use Rattle.fsl_name.specs.Name.{name_of, name_text, is_name_digit}
use Rattle.fsl_date.specs.Moment.{IsMoment, moment_text, fits_place, has_date_shape}
use Rattle.std.specs.List.{list_all}
use Rattle.fsl_uv.specs.declared.Entry.{Entry}
use Rattle.fsl_uv.specs.Entries.{IsEntry, entry_text, hash_text, content}
use Rattle.fsl_text.specs.Paths.{path_ok}
use Rattle.fsl_uv.proofs.Solid.{name-digits, moment-again, some_shape}
use Rattle.fsl_uv.proofs.Digests.{name-is}

same_length : (shape text : List ℕ) → pointwise fits_place shape text ≡ true → length text ≡ length shape
same_length [] [] h = refl
same_length [] (b ∷ text) h = absurd cc
same_length (p ∷ shape) [] h = absurd cc
same_length (p ∷ shape) (b ∷ text) h = let rest = same_length shape text (second_holds (fits_place p b) (pointwise fits_place shape text) h) in omega (arith, rest)

short : (text : List ℕ) (a b : Bool) → pointwise fits_place (codes "9999-99-99T99:99:99") text ≡ a → pointwise fits_place (codes "9999-99-99T99:99:99.999") text ≡ b → (a || b) ≡ true → length text ≤ 23
short text true b p q h = let l = same_length (codes "9999-99-99T99:99:99") text p in omega (arith, l)
short text false true p q h = let l = same_length (codes "9999-99-99T99:99:99.999") text q in omega (arith, l)
short text false false p q h = absurd cc

pub moment-short : (m : ℕ) → IsMoment m → length (moment_text m) ≤ 23
moment-short m h = short (moment_text m) _ _ refl refl (some_shape (moment_text m) m (has_date_shape (moment_text m)) _ _ (moment-again m h))

pub hash-short : (b : Option (List ℕ)) → length (hash_text b) ≤ 40
hash-short None = omega arith
hash-short (Some b) =
    let digits = name-digits (name_of b) (name-is b) in
    let forty : length (name_text (name_of b)) ≡ 40 = eqb-true (length (name_text (name_of b))) 40 (first_holds (length (name_text (name_of b)) == 40) (list_all is_name_digit (name_text (name_of b))) digits) in
    omega (arith, forty)

two : (b : ℕ) (s n k t r v f z : Bool) → length (cond s (92 ∷ 115 ∷ []) (cond n (92 ∷ 110 ∷ []) (cond k (92 ∷ 92 ∷ []) (cond t (92 ∷ 116 ∷ []) (cond r (92 ∷ 114 ∷ []) (cond v (92 ∷ 118 ∷ []) (cond f (92 ∷ 102 ∷ []) (cond z (92 ∷ 48 ∷ []) (b ∷ []))))))))) ≤ 2
two b true n k t r v f z = omega arith
two b false true k t r v f z = omega arith
two b false false true t r v f z = omega arith
two b false false false true r v f z = omega arith
two b false false false false true v f z = omega arith
two b false false false false false true f z = omega arith
two b false false false false false false true z = omega arith
two b false false false false false false false true = omega arith
two b false false false false false false false false = omega arith

pub escape-short : (text : List ℕ) → length (escape text) ≤ 2 * length text
escape-short [] = omega arith
escape-short (b ∷ text) =
    let one = two b (b == 32) (b == 10) (b == 92) (b == 9) (b == 13) (b == 11) (b == 12) (b == 0) in
    let rest = escape-short text in
    let both = length-append (escaped_byte b) (escape text) in
    omega (arith, one, rest, both)

le_from : (m n : ℕ) → nat_le m n ≡ true → m ≤ n
le_from m n h = grind (arith, h)

pub entry-fits : (e : Entry) → IsEntry e → length (entry_text e) ≤ 2 ^ 24
unfolding moment_text
entry-fits e good =
    let m = moment-short e.moment good.moment in
    let h = hash-short e.bytes in
    let p = escape-short e.path in
    let few = le_from (length e.path) 512 (second_holds (path_ok e.path) (nat_le (length e.path) 512) good.path) in
    let c = good.size in
    let tail = length-append (hash_text e.bytes) (32 ∷ escape e.path) in
    let line = length-append (moment_text e.moment) (32 ∷ hash_text e.bytes ++ 32 ∷ escape e.path) in
    let all = length-append (codes "uv " ++ moment_text e.moment ++ 32 ∷ hash_text e.bytes ++ 32 ∷ escape e.path) (10 ∷ content e.bytes) in
    omega (arith, m, h, p, few, c, tail, line, all)
