use Rattle.std.proofs.Common.{ℕ, List, Contains, sym, ap, subst, ◌∙◌}
use Rattle.std.proofs.lemmas.Bool.{eqb-true}
use Rattle.lru.specs.LruCache.{LruCache}
use Rattle.fsl_blobs.proofs.ContentLemmas.{found-kept, promoted-kept}
use Rattle.fsl_blobs.proofs.contents.recalled.Goals as goal

pub returns-in_err-of-in-Some-clause-kept : goal.returns-in_err-of-in-Some-clause-kept
returns-in_err-of-in-Some-clause-kept c = promoted-kept _ c.args.cache.now.entries c.promote.new.self.entries (ap (λ (m : LruCache ℕ (List ℕ)). m.entries) c.promote.ensures.entries)

pub returns-in_ok-of-in-Some-clause-found : goal.returns-in_ok-of-in-Some-clause-found
returns-in_ok-of-in-Some-clause-found c =
    subst (λ (t : List ℕ). Contains c.args.cache.now.entries (c.args.place, t)) (sym (c.in_ok-of-in-Some.ensures ∙ c.bytes.ensures))
    (found-kept _ c.args.place (λ n e. eqb-true c.args.place n e) c.args.cache.now.entries c.promote.new.self.entries (ap (λ (m : LruCache ℕ (List ℕ)). m.entries) c.promote.ensures.entries)
    c.in-Some.text.now (sym c.in-Some.ensures))

pub returns-in_ok-of-in-Some-clause-kept : goal.returns-in_ok-of-in-Some-clause-kept
returns-in_ok-of-in-Some-clause-kept c = promoted-kept _ c.args.cache.now.entries c.promote.new.self.entries (ap (λ (m : LruCache ℕ (List ℕ)). m.entries) c.promote.ensures.entries)

pub returns-in-None-clause-kept : goal.returns-in-None-clause-kept
returns-in-None-clause-kept c = promoted-kept _ c.args.cache.now.entries c.promote.new.self.entries (ap (λ (m : LruCache ℕ (List ℕ)). m.entries) c.promote.ensures.entries)

pub returns-in_err-of-in-Some-clause-few : goal.returns-in_err-of-in-Some-clause-few
returns-in_err-of-in-Some-clause-few c = c.know_bound.ensures

pub returns-in_err-of-in-Some-clause-cap : goal.returns-in_err-of-in-Some-clause-cap
returns-in_err-of-in-Some-clause-cap c = ap (λ (m : LruCache ℕ (List ℕ)). m.cap) c.promote.ensures.entries

pub returns-in_ok-of-in-Some-clause-few : goal.returns-in_ok-of-in-Some-clause-few
returns-in_ok-of-in-Some-clause-few c = c.know_bound.ensures

pub returns-in_ok-of-in-Some-clause-cap : goal.returns-in_ok-of-in-Some-clause-cap
returns-in_ok-of-in-Some-clause-cap c = ap (λ (m : LruCache ℕ (List ℕ)). m.cap) c.promote.ensures.entries

pub returns-in-None-clause-few : goal.returns-in-None-clause-few
returns-in-None-clause-few c = c.know_bound.ensures

pub returns-in-None-clause-cap : goal.returns-in-None-clause-cap
returns-in-None-clause-cap c = ap (λ (m : LruCache ℕ (List ℕ)). m.cap) c.promote.ensures.entries
