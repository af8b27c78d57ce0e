-- The bytes of a connection have one answer.
use Rattle.std.proofs.Common.{◌≡◌, ℕ, List, [], ◌∷◌, ◌++◌, length, take, refl, sym, ap, subst, ◌∙◌, arith, inl, inr, length-append}
use Rattle.std.proofs.lemmas.List.{take_at}
use Rattle.httparse.specs.Grammar.{RequestHead, print_blank}
use Rattle.httparse.proofs.GrammarLemmas.{request_unique, print_request-append}
use Rattle.fsl_http.specs.declared.request_head.Verdict.TheVariants.{Refuse, Length}
use Rattle.fsl_http.specs.declared.request.Asked.TheVariants.{Closed, Refused, Body}
use Rattle.fsl_http.specs.Requests.{IsHead, IsWhole, Refuses, judge, HasOneAnswer}

same : (bytes r q : List ℕ) (h k : RequestHead) → IsHead bytes h r → IsHead bytes k q → (h ≡ k) × (r ≡ q)
same bytes r q h k a b = request_unique bytes h k r q a.reads b.reads

refuse_one : (s t : ℕ) → Refuse s ≡ Refuse t → s ≡ t
refuse_one s t e = cc

length_one : (s t : ℕ) → Length s ≡ Length t → s ≡ t
length_one s t e = cc

apart : (s n : ℕ) → Refuse s ≡ Length n → ⊥
apart s n e = cc

-- a head isn't empty, so no bytes have none
pub no_bytes : (h : RequestHead) (rest : List ℕ) → IsHead [] h rest → ⊥
no_bytes h rest is = no_front (print_blank h.blank) h.method _ (sym (print_request-append h rest) ∙ sym is.reads.1)
  where
    no_front : (a b tail : List ℕ) → a ++ (b ++ 32 ∷ tail) ≡ [] → ⊥
    no_front [] [] tail e = cc
    no_front [] (x ∷ b) tail e = cc
    no_front (x ∷ a) b tail e = cc

closed_refused : (bytes : List ℕ) (s : ℕ) → bytes ≡ [] → Refuses bytes s → ⊥
closed_refused bytes s none (inl x) = x.0 none
closed_refused bytes s none (inr (inl x)) = no_bytes x.head x.rest (subst (λ (t : List ℕ). IsHead t x.head x.rest) none x.reads)
closed_refused bytes s none (inr (inr x)) = no_bytes x.0.head x.0.rest (subst (λ (t : List ℕ). IsHead t x.0.head x.0.rest) none x.0.reads)

closed_whole : (bytes body : List ℕ) → bytes ≡ [] → IsWhole bytes body → ⊥
closed_whole bytes body none x = no_bytes x.head _ (subst (λ (t : List ℕ). IsHead t x.head (body ++ x.after)) none x.reads)

two : (bytes : List ℕ) (s t : ℕ) → Refuses bytes s → Refuses bytes t → s ≡ t
two bytes s t (inl x) (inl y) = x.2 ∙ sym y.2
two bytes s t (inl x) (inr (inl y)) = absurd (x.1 y.head y.rest y.reads)
two bytes s t (inl x) (inr (inr y)) = absurd (x.1 y.0.head y.0.rest y.0.reads)
two bytes s t (inr (inl x)) (inl y) = absurd (y.1 x.head x.rest x.reads)
two bytes s t (inr (inl x)) (inr (inl y)) = refuse_one s t (sym x.refuses ∙ ap judge (same bytes _ _ x.head y.head x.reads y.reads).0 ∙ y.refuses)
two bytes s t (inr (inl x)) (inr (inr y)) =
    absurd (apart s y.0.size (sym x.refuses ∙ ap judge (same bytes _ _ x.head y.0.head x.reads y.0.reads).0 ∙ y.0.asks))
two bytes s t (inr (inr x)) (inl y) = absurd (y.1 x.0.head x.0.rest x.0.reads)
two bytes s t (inr (inr x)) (inr (inl y)) =
    absurd (apart t x.0.size (sym y.refuses ∙ ap judge (same bytes _ _ y.head x.0.head y.reads x.0.reads).0 ∙ x.0.asks))
two bytes s t (inr (inr x)) (inr (inr y)) = x.1 ∙ sym y.1

refused_whole : (bytes : List ℕ) (s : ℕ) (body : List ℕ) → Refuses bytes s → IsWhole bytes body → ⊥
refused_whole bytes s body (inl x) y = x.1 y.head _ y.reads
refused_whole bytes s body (inr (inl x)) y =
    apart s (length body) (sym x.refuses ∙ ap judge (same bytes _ _ x.head y.head x.reads y.reads).0 ∙ y.asks)
refused_whole bytes s body (inr (inr x)) y =
    let one = same bytes x.0.rest (body ++ y.after) x.0.head y.head x.0.reads y.reads in
    let size = length_one x.0.size (length body) (sym x.0.asks ∙ ap judge one.0 ∙ y.asks) in
    let long = ap length one.1 ∙ length-append body y.after in
    let lt = x.0.short in
    omega (arith, size, long, lt)

-- a request has one body
one_body : (bytes a b : List ℕ) → IsWhole bytes a → IsWhole bytes b → a ≡ b
one_body bytes a b x y =
    let one = same bytes (a ++ x.after) (b ++ y.after) x.head y.head x.reads y.reads in
    let size : length a ≡ length b = length_one (length a) (length b) (sym x.asks ∙ ap judge one.0 ∙ y.asks) in
    sym (take_at a x.after (length a) refl) ∙ ap (take (length a)) one.1 ∙ take_at b y.after (length a) (sym size)

pub answer_one : HasOneAnswer
answer_one bytes Closed Closed x y = refl
answer_one bytes Closed (Refused t) x y = absurd (closed_refused bytes t x y)
answer_one bytes Closed (Body c) x y = absurd (closed_whole bytes c x y)
answer_one bytes (Refused s) Closed x y = absurd (closed_refused bytes s y x)
answer_one bytes (Refused s) (Refused t) x y = ap (λ (n : ℕ). Refused n) (two bytes s t x y)
answer_one bytes (Refused s) (Body c) x y = absurd (refused_whole bytes s c x y)
answer_one bytes (Body b) Closed x y = absurd (closed_whole bytes b y x)
answer_one bytes (Body b) (Refused t) x y = absurd (refused_whole bytes t b y x)
answer_one bytes (Body b) (Body c) x y = ap (λ (n : List ℕ). Body n) (one_body bytes b c x y)
