use Rattle.std.proofs.Common.{◌≡◌, ℕ, cond, Bool, true, false, List, ap, sym, subst, ◌∙◌, take, Bor, refl}
use Rattle.std.specs.List.{list_any}
use Rattle.std.specs.BTreeMap.{is_at}
use Rattle.fsl_order.specs.Names.{bytes_cmp, has}
use Rattle.fsl_words.proofs.WordLemmas.{differ_not, differ_next, has_more, was_there, was_new}
use Rattle.fsl_words.proofs.fields.all_differ.Goals as goal

pub loop-text-init : goal.loop-text-init
loop-text-init c = record { seen = λ q. ap (λ ks. list_any (is_at (λ (k : Bor (List ℕ)). bytes_cmp q.now k.now)) ks) c.new-seen.ensures.empty; apart = refl }

pub returns-then-not-branch : goal.returns-then-not-branch
returns-then-not-branch c =
    let texts = c.args.texts.now in
    let i = c.loop-text.text-index in
    let text = c.text-item.result in
    let there : has (take i texts) text ≡ true =
    subst (λ (x : List ℕ). has (take i texts) x ≡ true) c.bytes.ensures
    (sym (c.loop-text.invariant.seen c.bytes.result) ∙ was_there _ c.in_ok-insert.field-0 c.in_ok-insert.ensures.added c.if-not-branch.true) in
    sym (differ_not texts i text c.loop-text-test.true c.text-item.is there)

pub loop-text-preserved : goal.loop-text-preserved
loop-text-preserved c =
    let texts = c.args.texts.now in
    let i = c.loop-text.text-index in
    let text = c.text-item.result in
    let new : has (take i texts) text ≡ false =
    subst (λ (x : List ℕ). has (take i texts) x ≡ false) c.bytes.ensures
    (sym (c.loop-text.invariant.seen c.bytes.result) ∙ was_new _ c.in_ok-insert.field-0 c.in_ok-insert.ensures.added c.if-not-branch.false) in
    record {
      seen = λ q.
          c.in_ok-insert.ensures.updates.0 q ∙ ap (λ (b : Bool). cond (is_at (bytes_cmp c.bytes.result.now) q.now) true b) (c.loop-text.invariant.seen q)
          ∙ ap (λ (x : List ℕ). cond (is_at (bytes_cmp x) q.now) true (has (take i texts) q.now)) c.bytes.ensures
          ∙ has_more texts i text q.now c.loop-text-test.true c.text-item.is;
      apart = differ_next texts i text c.loop-text-test.true c.text-item.is c.loop-text.invariant.apart new;
    }
