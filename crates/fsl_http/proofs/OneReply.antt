-- The bytes of a connection are one reply at most.
use Rattle.std.proofs.Common.{◌≡◌, ℕ, ◌+◌, ◌<◌, List, [], ◌∷◌, ◌++◌, length, take, map, refl, sym, ap, ◌∙◌, arith, length-append}
use Rattle.std.specs.Prelude.{codes, Result, Ok}
use Rattle.std.proofs.lemmas.List.{take_at}
use Rattle.httparse.specs.Grammar.{ResponseHead, status_code}
use Rattle.httparse.specs.Spans.{name_and_value}
use Rattle.httparse.proofs.GrammarLemmas.{response_unique}
use Rattle.fsl_text.specs.Decimals.{decimal_of}
use Rattle.fsl_text.specs.declared.fault.DecimalFault.{DecimalFault}
use Rattle.fsl_http.specs.Fields.{values_of}
use Rattle.fsl_http.specs.Responses.{IsReply, no_head, status, long, short, body, HasOneReply}

first_of : (a b : List ℕ) (xs ys : List (List ℕ)) → a ∷ xs ≡ b ∷ ys → a ≡ b
first_of a b xs ys e = cc

one_number : (r : Result ℕ DecimalFault) (m n : ℕ) → r ≡ Ok m → r ≡ Ok n → m ≡ n
one_number r m n e f = cc

-- one head, one rest and one length
same : (bytes r q : List ℕ) (h k : ResponseHead) (m n : ℕ) → IsReply bytes h r m → IsReply bytes k q n → (h ≡ k) × (r ≡ q) × (m ≡ n)
same bytes r q h k m n a b =
    let one = response_unique bytes h k r q a.reads b.reads in
    let text : a.says.text ≡ b.says.text =
    first_of a.says.text b.says.text [] [] (sym a.says.one ∙ ap (λ (x : ResponseHead). values_of (codes "content-length") (map name_and_value x.fields)) one.0 ∙ b.says.one) in
    (one.0, one.1, one_number (decimal_of a.says.text) m n a.says.number (ap decimal_of text ∙ b.says.number))

codes_of : (bytes r q : List ℕ) (h k : ResponseHead) (m n s t : ℕ) → IsReply bytes h r m → IsReply bytes k q n → status_code h ≡ s → status_code k ≡ t → s ≡ t
codes_of bytes r q h k m n s t a b e f = sym e ∙ ap status_code (same bytes r q h k m n a b).0 ∙ f

body_one : (bytes r q a b more less : List ℕ) (h k : ResponseHead) (m n : ℕ) → IsReply bytes h r m → IsReply bytes k q n → length a ≡ m → length b ≡ n → r ≡ a ++ more → q ≡ b ++ less → a ≡ b
body_one bytes r q a b more less h k m n x y la lb ra qb =
    let one = same bytes r q h k m n x y in
    let size : length a ≡ length b = la ∙ one.2 ∙ sym lb in
    sym (take_at a more (length a) refl) ∙ ap (take (length a)) (sym ra ∙ one.1 ∙ qb) ∙ take_at b less (length a) (sym size)

short_body : (bytes r q a more : List ℕ) (h k : ResponseHead) (m n : ℕ) → IsReply bytes h r m → IsReply bytes k q n → length r < m → length a ≡ n → q ≡ a ++ more → ⊥
short_body bytes r q a more h k m n x y lt la qa =
    let one = same bytes r q h k m n x y in
    let long : length r ≡ length a + length more = ap length one.1 ∙ ap length qa ∙ length-append a more in
    omega (arith, lt, la, long, one.2)

pub one_reply : HasOneReply
one_reply bytes no_head no_head x y = refl
one_reply bytes no_head (status n) x y = absurd (x y.0 y.1 y.2 y.3)
one_reply bytes no_head (long n) x y = absurd (x y.0 y.1 y.2 y.3)
one_reply bytes no_head (short n) x y = absurd (x y.0 y.1 y.2 y.3)
one_reply bytes no_head (body n) x y = absurd (x y.0 y.1 y.2 y.3)
one_reply bytes (status n) no_head x y = absurd (y x.0 x.1 x.2 x.3)
one_reply bytes (long n) no_head x y = absurd (y x.0 x.1 x.2 x.3)
one_reply bytes (short n) no_head x y = absurd (y x.0 x.1 x.2 x.3)
one_reply bytes (body n) no_head x y = absurd (y x.0 x.1 x.2 x.3)
one_reply bytes (status n) (status m) x y = ap (λ (k : ℕ). status k) (codes_of bytes _ _ x.0 y.0 _ _ n m x.3 y.3 x.4.0 y.4.0)
one_reply bytes (status n) (long m) x y = absurd (x.4.1 (codes_of bytes _ _ x.0 y.0 _ _ n 200 x.3 y.3 x.4.0 y.4.0))
one_reply bytes (status n) (short m) x y = absurd (x.4.1 (codes_of bytes _ _ x.0 y.0 _ _ n 200 x.3 y.3 x.4.0 y.4.0))
one_reply bytes (status n) (body m) x y = absurd (x.4.1 (codes_of bytes _ _ x.0 y.0 _ _ n 200 x.3 y.3 x.4.0 y.4.0))
one_reply bytes (long n) (status m) x y = absurd (y.4.1 (codes_of bytes _ _ y.0 x.0 _ _ m 200 y.3 x.3 y.4.0 x.4.0))
one_reply bytes (short n) (status m) x y = absurd (y.4.1 (codes_of bytes _ _ y.0 x.0 _ _ m 200 y.3 x.3 y.4.0 x.4.0))
one_reply bytes (body n) (status m) x y = absurd (y.4.1 (codes_of bytes _ _ y.0 x.0 _ _ m 200 y.3 x.3 y.4.0 x.4.0))
one_reply bytes (long n) (long m) x y = ap (λ (k : ℕ). long k) (sym x.4.1 ∙ (same bytes _ _ x.0 y.0 _ _ x.3 y.3).2 ∙ y.4.1)
one_reply bytes (long n) (short m) x y = let one = same bytes _ _ x.0 y.0 _ _ x.3 y.3 in absurd (omega (arith, one.2, x.4.2, y.4.1))
one_reply bytes (long n) (body m) x y = let one = same bytes _ _ x.0 y.0 _ _ x.3 y.3 in absurd (omega (arith, one.2, x.4.2, y.4.1))
one_reply bytes (short n) (long m) x y = let one = same bytes _ _ x.0 y.0 _ _ x.3 y.3 in absurd (omega (arith, one.2, y.4.2, x.4.1))
one_reply bytes (body n) (long m) x y = let one = same bytes _ _ x.0 y.0 _ _ x.3 y.3 in absurd (omega (arith, one.2, y.4.2, x.4.1))
one_reply bytes (short n) (short m) x y = ap (λ (k : ℕ). short k) (sym x.4.2 ∙ ap length (same bytes _ _ x.0 y.0 _ _ x.3 y.3).1 ∙ y.4.2)
one_reply bytes (short n) (body m) x y = absurd (short_body bytes x.1 y.1 m y.4.3.0 x.0 y.0 x.2 y.2 x.3 y.3 (omega (arith, x.4.2, x.4.3)) y.4.2 y.4.3.1)
one_reply bytes (body n) (short m) x y = absurd (short_body bytes y.1 x.1 n x.4.3.0 y.0 x.0 y.2 x.2 y.3 x.3 (omega (arith, y.4.2, y.4.3)) x.4.2 x.4.3.1)
one_reply bytes (body n) (body m) x y = ap (λ (k : List ℕ). body k) (body_one bytes x.1 y.1 n m x.4.3.0 y.4.3.0 x.0 y.0 x.2 y.2 x.3 y.3 x.4.2 y.4.2 x.4.3.1 y.4.3.1)
