use Rattle.std.proofs.Common.{◌≡◌, sym, ◌∙◌, true, false, arith}
use Rattle.std.specs.Prelude.{nat_le}
use Rattle.std.proofs.Common.{length}
use Rattle.std.proofs.lemmas.Bool.Decides.{nat_tests}
use Rattle.fsl_blobs.proofs.AnnouncedNames.{known-again, known-full, known-new, kept-announced, seen-announced, on_err}
use Rattle.fsl_blobs.proofs.blobs.Blobs.announce.Goals as goal

pub returns-then-contains-2-clause-known : goal.returns-then-contains-2-clause-known
returns-then-contains-2-clause-known c =
    known-again _ _ _ _ _ c.self.invariant.kept _ _ c.args.self.now c.self.view_is c.args.name
    (sym c.contains_key.ensures ∙ c.if-contains_key.false) (sym c.contains.ensures ∙ c.if-contains.false) (sym c.contains-2.ensures ∙ c.if-contains-2.true)

pub returns-then-len-ge-MOST_ANNOUNCED-clause-known : goal.returns-then-len-ge-MOST_ANNOUNCED-clause-known
returns-then-len-ge-MOST_ANNOUNCED-clause-known c =
    let full : nat_le 65536 (length c.self.inside.announced.keys) ≡ true = grind (arith, nat_tests) in
    known-full _ _ _ _ _ c.self.invariant.kept _ _ c.args.self.now c.self.view_is c.args.name
    (sym c.contains_key.ensures ∙ c.if-contains_key.false) (sym c.contains.ensures ∙ c.if-contains.false) (sym c.contains-2.ensures ∙ c.if-contains-2.false) c.len.ensures.ordered full

pub returns-in_err-insert-clause-memory : goal.returns-in_err-insert-clause-memory
returns-in_err-insert-clause-memory c =
    let room : nat_le 65536 (length c.self.inside.announced.keys) ≡ false = grind (arith, nat_tests) in
    on_err _ _ (sym (known-new _ _ _ _ _ c.self.invariant.kept _ _ c.args.self.now c.self.view_is c.args.name
    (sym c.contains_key.ensures ∙ c.if-contains_key.false) (sym c.contains.ensures ∙ c.if-contains.false) (sym c.contains-2.ensures ∙ c.if-contains-2.false) c.len.ensures.ordered room))

pub invariant_of-self-2 : goal.invariant_of-self-2
invariant_of-self-2 c = record {
  kept = kept-announced _ _ _ _ _ c.self.invariant.kept _ _ c.args.self.now c.self.view_is c.args.name _ c.in_ok-insert.ensures.updates.0
      (sym c.contains_key.ensures ∙ c.if-contains_key.false) (sym c.contains.ensures ∙ c.if-contains.false);
  from = c.self.invariant.from;
  as_many = c.self.invariant.as_many;
  cached = c.self.invariant.cached;
  bounded = c.self.invariant.bounded;
  cap = c.self.invariant.cap;
  ordered = c.self.invariant.ordered;
  sum = c.self.invariant.sum;
  small = c.self.invariant.small;
}

pub returns-clause-known : goal.returns-clause-known
returns-clause-known c =
    let room : nat_le 65536 (length c.self.inside.announced.keys) ≡ false = grind (arith, nat_tests) in
    known-new _ _ _ _ _ c.self.invariant.kept _ _ c.args.self.now c.self.view_is c.args.name
    (sym c.contains_key.ensures ∙ c.if-contains_key.false) (sym c.contains.ensures ∙ c.if-contains.false) (sym c.contains-2.ensures ∙ c.if-contains-2.false) c.len.ensures.ordered room

pub returns-clause-value : goal.returns-clause-value
returns-clause-value c = seen-announced _ _ _ _ _ c.self.invariant.kept _ _ c.args.self.now c.self.view_is c.args.name _ c.in_ok-insert.ensures.updates.0
