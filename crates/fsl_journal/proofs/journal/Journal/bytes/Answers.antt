use Rattle.std.proofs.Common.{◌≡◌, ◌⊎◌, ◌-◌, length, None, IsTrue, List, ℕ, take, drop, refl, sym, ◌∙◌, ap, subst, arith}
use Rattle.fsl_journal.specs.Journal.{Belongs}
use Rattle.fsl_journal.specs.Log.{Log}
use Rattle.fsl_journal.specs.Places.{IsAppended, IsPending}
use Rattle.fsl_journal.proofs.Belonging.{belongs_quiet}
use Rattle.fsl_journal.proofs.Ends.{on_success}
use Rattle.fsl_journal.proofs.Rereading.{quiet_same, answer_weaker, fault_weaker, no_memory, part_length, part_is, pending_of, committed_of, not_pending, pending_place, pending_stands, committed_inside, not_some}
use Rattle.fsl_journal.proofs.journal.Journal.bytes.Goals as goal

pub overflow_sub-start-then-at-self : goal.overflow_sub-start-then-at-self
overflow_sub-start-then-at-self g c =
    let content = c.requires.appended.0 in
    let has = subst (λ (l : Log). IsAppended l c.args.at content) (sym c.self.view_is) c.requires.appended.1 in
    let place = pending_place c.self.inside c.self.invariant c.args.at content (pending_of c.self.inside c.self.invariant c.args.at content has c.if-at-self.true) in
    omega (arith, place.0)

pub overflow_sub-start : goal.overflow_sub-start
overflow_sub-start g c =
    let content = c.requires.appended.0 in
    let has = subst (λ (l : Log). IsAppended l c.args.at content) (sym c.self.view_is) c.requires.appended.1 in
    let place = pending_place c.self.inside c.self.invariant c.args.at content (pending_of c.self.inside c.self.invariant c.args.at content has c.if-at-self.true) in
    omega (arith, place.0)

pub copy_part-requires : goal.copy_part-requires
copy_part-requires g c =
    let content = c.requires.appended.0 in
    let has = subst (λ (l : Log). IsAppended l c.args.at content) (sym c.self.view_is) c.requires.appended.1 in
    let place = pending_place c.self.inside c.self.invariant c.args.at content (pending_of c.self.inside c.self.invariant c.args.at content has c.if-at-self.true) in
    record { inside = omega (arith, place.0, place.1, c.requires.appended.2, ap length c.bytes.ensures) }

pub returns-then-at-self : goal.returns-then-at-self
returns-then-at-self g c =
    let j = c.self.inside in
    let s0 = g.D.Disk.state c.args.disk.now in
    let r = c.copy_part.result in
    let content = c.requires.appended.0 in
    let has = subst (λ (l : Log). IsAppended l c.args.at content) (sym c.self.view_is) c.requires.appended.1 in
    let start = c.args.at - j.place - 9 in
    let there = pending_stands j c.self.invariant c.args.at content start refl (pending_of j c.self.invariant c.args.at content has c.if-at-self.true) in
    let part : (text : List ℕ) → text ≡ take c.args.size (drop start c.bytes.result.now) → text ≡ take c.args.size (drop start j.pending) =
    λ text is. is ∙ ap (λ (l : List ℕ). take c.args.size (drop start l)) c.bytes.ensures in record {
      sized = answer_weaker r _ _ (λ text is. part_length start c.args.size content j.pending text there c.requires.appended.2 (part text is)) c.copy_part.ensures.ok;
      held = answer_weaker r _ _ (λ text is _ held told other appended long.
          part_is start c.args.size other j.pending text
          (pending_stands j c.self.invariant c.args.at other start refl (pending_of j c.self.invariant c.args.at other (subst (λ (l : Log). IsAppended l c.args.at other) (sym c.self.view_is) appended) c.if-at-self.true))
          long (part text is)) c.copy_part.ensures.ok;
      pending = answer_weaker r _ _ (λ text is other pending long.
          part_is start c.args.size other j.pending text
          (pending_stands j c.self.invariant c.args.at other start refl (subst (λ (l : Log). IsPending l c.args.at other) (sym c.self.view_is) pending)) long (part text is)) c.copy_part.ensures.ok;
      count = on_success r _ refl;
      later = omega arith;
      fault = fault_weaker r _ _ (λ fault is. no_memory fault s0 is) c.copy_part.ensures.fault;
      quiet = quiet_same s0;
      memory = λ _. (refl, c.copy_part.ensures.fault);
      belongs = c.requires.belongs;
    }

pub read_if_there-requires : goal.read_if_there-requires
read_if_there-requires g c =
    let j = c.self.inside in
    let content = c.requires.appended.0 in
    let has = committed_of j c.self.invariant c.args.at content (subst (λ (l : Log). IsAppended l c.args.at content) (sym c.self.view_is) c.requires.appended.1) c.if-at-self.false in
    let within = c.self.invariant.inside c.args.at content has in
    record { fits = omega (arith, within.0, c.self.invariant.place, c.requires.appended.2) }

pub returns-then-is_some : goal.returns-then-is_some
returns-then-is_some g c =
    let j = c.self.inside in
    let s0 = g.D.Disk.state c.args.disk.now in
    let r = c.read_if_there.result in
    let belongs = subst (λ (l : Log). Belongs l s0) (sym c.self.view_is) c.requires.belongs in record {
      sized = c.read_if_there.ensures.sized;
      held = answer_weaker r _ _ (λ text is where_so held told other appended long.
          let has = committed_of j c.self.invariant c.args.at other (subst (λ (l : Log). IsAppended l c.args.at other) (sym c.self.view_is) appended) c.if-at-self.false in
          part_is c.args.at c.args.size other held text (belongs.contents (subst (λ (l : Log). (l.stopped ≡ None) ⊎ IsTrue s0.is_model) (sym c.self.view_is) where_so) held told c.args.at other has) long (is held told)) c.read_if_there.ensures.held;
      pending = answer_weaker r _ _ (λ text is other pending long.
          not_pending j c.self.invariant c.args.at other c.if-at-self.false (subst (λ (l : Log). IsPending l c.args.at other) (sym c.self.view_is) pending)) c.read_if_there.ensures.held;
      count = c.read_if_there.ensures.count;
      later = c.read_if_there.ensures.later;
      fault = c.read_if_there.ensures.fault;
      quiet = c.read_if_there.ensures.quiet;
      memory = λ has. not_pending j c.self.invariant c.args.at has.0 c.if-at-self.false (subst (λ (l : Log). IsPending l c.args.at has.0) (sym c.self.view_is) has.1);
      belongs = belongs_quiet c.args.self.now s0 (g.D.Disk.state c.read_if_there.new.disk) c.requires.belongs c.read_if_there.ensures.quiet;
    }

pub read_text-requires : goal.read_text-requires
read_text-requires g c =
    let j = c.self.inside in
    let s0 = g.D.Disk.state c.args.disk.now in
    let belongs = subst (λ (l : Log). Belongs l s0) (sym c.self.view_is) c.requires.belongs in
    let content = c.requires.appended.0 in
    let has = committed_of j c.self.invariant c.args.at content (subst (λ (l : Log). IsAppended l c.args.at content) (sym c.self.view_is) c.requires.appended.1) c.if-at-self.false in
    record { inside = λ held told. omega (arith, committed_inside j c.self.invariant c.args.at content s0 belongs (not_some j.stopped c.is_some.result c.is_some.ensures c.if-is_some.false) has held told, c.requires.appended.2) }

pub returns : goal.returns
returns g c =
    let j = c.self.inside in
    let s0 = g.D.Disk.state c.args.disk.now in
    let r = c.read_text.result in
    let belongs = subst (λ (l : Log). Belongs l s0) (sym c.self.view_is) c.requires.belongs in record {
      sized = c.read_text.ensures.sized;
      held = answer_weaker r _ _ (λ text is where_so held told other appended long.
          let has = committed_of j c.self.invariant c.args.at other (subst (λ (l : Log). IsAppended l c.args.at other) (sym c.self.view_is) appended) c.if-at-self.false in
          part_is c.args.at c.args.size other held text (belongs.contents (subst (λ (l : Log). (l.stopped ≡ None) ⊎ IsTrue s0.is_model) (sym c.self.view_is) where_so) held told c.args.at other has) long (is held told)) c.read_text.ensures.held;
      pending = answer_weaker r _ _ (λ text is other pending long.
          not_pending j c.self.invariant c.args.at other c.if-at-self.false (subst (λ (l : Log). IsPending l c.args.at other) (sym c.self.view_is) pending)) c.read_text.ensures.held;
      count = c.read_text.ensures.count;
      later = c.read_text.ensures.later;
      fault = c.read_text.ensures.fault;
      quiet = c.read_text.ensures.quiet;
      memory = λ has. not_pending j c.self.invariant c.args.at has.0 c.if-at-self.false (subst (λ (l : Log). IsPending l c.args.at has.0) (sym c.self.view_is) has.1);
      belongs = belongs_quiet c.args.self.now s0 (g.D.Disk.state c.read_text.new.disk) c.requires.belongs c.read_text.ensures.quiet;
    }
