use Rattle.std.proofs.Common.{◌+◌, ◌<◌, ◌≤◌, ◌∙◌, arith, subst, sym}
use Rattle.std.specs.Prelude.{IfSome}
use Rattle.fsl_disk.specs.Front.{shown}
use Rattle.fsl_journal.specs.Beside.{IsFrontOf}
use Rattle.fsl_journal.specs.Still.{IsBehind, IsStillFront}
use Rattle.fsl_journal.proofs.Ends.{on_fault}
use Rattle.fsl_journal.proofs.Still.{byte_still, known_still, length_still, still_gate, still_on, step_still, walk_first, walk_shut, whole_still}
use Rattle.fsl_journal.proofs.Turning.{sees_on, grown_first, grown_long, opened_from, next_from, gate_failed, rose_on, if_ok_on, if_err_on}
use Rattle.fsl_journal.proofs.Walked.{front_is}
use Rattle.fsl_journal.proofs.fronts.front_of.Goals as goal

pub returns-then-len-gate-clause-front : goal.returns-then-len-gate-clause-front
returns-then-len-gate-clause-front g c = λ held told grows.
    absurd (omega (arith, grown_long (g.F.Shared.state c.args.file.now) (g.F.Shared.state c.len.new.self) held c.in_ok-len.len grows (c.in_ok-len.ensures.answer held told), c.if-len-gate.true))

pub returns-then-len-gate-clause-still : goal.returns-then-len-gate-clause-still
returns-then-len-gate-clause-still g c = λ held told still.
    let first = g.F.Shared.state c.args.file.now in
    let now = g.F.Shared.state c.len.new.self in
    whole_still c.in_ok-len.len (held first.moment) c.whole.result c.whole.ensures.all (length_still first first now held c.in_ok-len.len (omega arith) still (c.in_ok-len.ensures.answer held told))

pub gates-init : goal.gates-init
gates-init g c =
    let first = g.F.Shared.state c.args.file.now in
    let now = g.F.Shared.state c.len.new.self in (
      c.if-len-gate.false,
      c.in_ok-len.ensures.fits,
      omega arith,
      c.len.ensures.sees,
      c.in_ok-len.ensures.cause.same,
      λ held told grows. grown_first held first.moment now.moment grows c.len.ensures.sees.later,
      λ held told still.
          let long = length_still first first now held c.in_ok-len.len (omega arith) still (c.in_ok-len.ensures.answer held told) in
          (long, walk_first (held first.moment) (omega (arith, long, c.if-len-gate.false))),
    )

pub returns-in_err-byte-clause-refused : goal.returns-in_err-byte-clause-refused
returns-in_err-byte-clause-refused g c =
    let first = g.F.Shared.state c.args.file.now in
    let now = g.F.Shared.state c.gates.file in
    let inv = c.gates.invariant in
    on_fault c.from_residual-in_err-byte.result _
    (λ grows. gate_failed first now (g.F.Shared.state c.byte_at.new.file) c.gates.gate (c.gates.gate + 1) inv.3 inv.4 inv.5 (omega arith) c.in_err-byte.ensures.cause.failed grows)

pub returns-then-byte-ne-OPEN-clause-front : goal.returns-then-byte-ne-OPEN-clause-front
returns-then-byte-ne-OPEN-clause-front g c =
    let first = g.F.Shared.state c.args.file.now in
    let now = g.F.Shared.state c.gates.file in
    let read = g.F.Shared.state c.byte_at.new.file in
    let last = g.F.Shared.state c.closed_at.new.file in
    let inv = c.gates.invariant in
    if_ok_on c.closed_at.result _ _ c.closed_at.ensures.front
    (λ front found held told grows.
    let told_now = inv.3.same ∙ told in
    subst (λ f. IsFrontOf f held first.moment last.moment) (sym found.1)
    (front_is now read last held first.moment c.gates.gate c.in_ok-byte.byte found.0 grows inv.3.later (inv.5 held told grows) (c.in_ok-byte.ensures.answer held told_now) c.if-byte-ne-OPEN.true (found.2 held (c.byte_at.ensures.sees.same ∙ told_now))))

pub returns-then-byte-ne-OPEN-clause-refused : goal.returns-then-byte-ne-OPEN-clause-refused
returns-then-byte-ne-OPEN-clause-refused g c =
    let first = g.F.Shared.state c.args.file.now in
    let now = g.F.Shared.state c.gates.file in
    let read = g.F.Shared.state c.byte_at.new.file in
    let last = g.F.Shared.state c.closed_at.new.file in
    let inv = c.gates.invariant in
    let sees = c.byte_at.ensures.sees in
    if_err_on c.closed_at.result _ _ c.closed_at.ensures.cause.failed
    (λ failed grows.
    gate_failed first read last c.gates.gate 14 (sees_on first now read inv.3 sees) (c.in_ok-byte.ensures.cause.same ∙ inv.4) (λ held told grown m le. inv.5 held told grown m (omega (arith, sees.later, le))) (omega (arith, inv.2)) failed grows)

pub returns-then-byte-ne-OPEN-clause-still : goal.returns-then-byte-ne-OPEN-clause-still
returns-then-byte-ne-OPEN-clause-still g c =
    let first = g.F.Shared.state c.args.file.now in
    let now = g.F.Shared.state c.gates.file in
    let read = g.F.Shared.state c.byte_at.new.file in
    let last = g.F.Shared.state c.closed_at.new.file in
    let inv = c.gates.invariant in
    if_ok_on c.closed_at.result _ _ c.closed_at.ensures.front
    (λ front found held told still.
    let told_now = inv.3.same ∙ told in
    let sees = c.byte_at.ensures.sees in
    let until = c.closed_at.ensures.sees in
    let walked = inv.6 held told (still_on first now last held (sees_on now read last sees until) still) in
    let byte = byte_still first now read last held c.gates.gate c.in_ok-byte.byte inv.3.later until.later still (c.in_ok-byte.ensures.answer held told_now) in
    let mark = byte_still first read last last held 13 found.0 (omega (arith, inv.3.later, sees.later)) (omega arith) still (found.2 held (sees.same ∙ told_now)) in
    subst (λ f. IsStillFront (held first.moment) (shown f (held first.moment))) (sym found.1)
    (still_gate (held first.moment) _ (walk_shut c.gates.gate c.in_ok-byte.byte found.0 (held first.moment) walked.1 byte.0 byte.1 c.if-byte-ne-OPEN.true mark.1)))

pub returns-in_err-next-clause-refused : goal.returns-in_err-next-clause-refused
returns-in_err-next-clause-refused g c =
    let first = g.F.Shared.state c.args.file.now in
    let now = g.F.Shared.state c.gates.file in
    let read = g.F.Shared.state c.byte_at.new.file in
    let last = g.F.Shared.state c.next_gate.new.file in
    let inv = c.gates.invariant in
    on_fault c.from_residual-in_err-next.result _
    (λ grows.
    rose_on first.faults read.faults last.faults (c.in_ok-byte.ensures.cause.same ∙ inv.4)
    (c.in_err-next.ensures.cause
    (λ held told.
    let told_now = sym c.byte_at.ensures.sees.same ∙ told in
    let told_first = sym inv.3.same ∙ told_now in
    opened_from now read held first.moment c.gates.gate c.in_ok-byte.byte (grows held told_first) inv.3.later (inv.5 held told_first (grows held told_first)) (c.in_ok-byte.ensures.answer held told_now) c.if-byte-ne-OPEN.false)))

pub returns-in_default-clause-front : goal.returns-in_default-clause-front
returns-in_default-clause-front g c = λ held told grows.
    let first = g.F.Shared.state c.args.file.now in
    let now = g.F.Shared.state c.gates.file in
    let read = g.F.Shared.state c.byte_at.new.file in
    let inv = c.gates.invariant in
    let told_now = inv.3.same ∙ told in
    let told_read = c.byte_at.ensures.sees.same ∙ told_now in
    let opened = opened_from now read held first.moment c.gates.gate c.in_ok-byte.byte grows inv.3.later (inv.5 held told grows) (c.in_ok-byte.ensures.answer held told_now) c.if-byte-ne-OPEN.false in
    let there = c.in_ok-next.ensures.on opened.0 held told_read opened.1 in
    absurd (c.in_default.not-Some _ there)

pub returns-in_default-clause-still : goal.returns-in_default-clause-still
returns-in_default-clause-still g c = λ held told still.
    let first = g.F.Shared.state c.args.file.now in
    let now = g.F.Shared.state c.gates.file in
    let read = g.F.Shared.state c.byte_at.new.file in
    let last = g.F.Shared.state c.next_gate.new.file in
    let inv = c.gates.invariant in
    let sees = c.byte_at.ensures.sees in
    let until = c.next_gate.ensures.sees in
    let before = inv.6 held told (still_on first now last held (sees_on now read last sees until) still) in
    whole_still c.in_ok-next.longer (held first.moment) c.whole-in_default.result c.whole-in_default.ensures.all
    (known_still first read last held c.gates.len c.in_ok-next.longer (omega (arith, inv.3.later, sees.later)) still (sees.same ∙ inv.3.same ∙ told) before.0 c.in_ok-next.ensures.known)

pub gates-preserved : goal.gates-preserved
gates-preserved g c =
    let first = g.F.Shared.state c.args.file.now in
    let now = g.F.Shared.state c.gates.file in
    let read = g.F.Shared.state c.byte_at.new.file in
    let last = g.F.Shared.state c.next_gate.new.file in
    let inv = c.gates.invariant in
    let inside = subst (λ o. IfSome o (λ place. (c.gates.gate + 9 ≤ place) × (place < c.in_ok-next.longer))) c.in-Some.is c.in_ok-next.ensures.next in (
      inside.1,
      c.in_ok-next.ensures.len,
      omega (arith, inside.0, inv.2),
      sees_on first read last (sees_on first now read inv.3 c.byte_at.ensures.sees) c.next_gate.ensures.sees,
      c.in_ok-next.ensures.count ∙ c.in_ok-byte.ensures.cause.same ∙ inv.4,
      λ held told grows.
          let told_now = inv.3.same ∙ told in
          let told_read = c.byte_at.ensures.sees.same ∙ told_now in
          let opened = opened_from now read held first.moment c.gates.gate c.in_ok-byte.byte grows inv.3.later (inv.5 held told grows) (c.in_ok-byte.ensures.answer held told_now) c.if-byte-ne-OPEN.false in
          next_from held read.moment last.moment c.gates.gate c.in-Some.place opened.0 opened.1 c.next_gate.ensures.sees.later (sym c.in-Some.is ∙ c.in_ok-next.ensures.on opened.0 held told_read opened.1),
      λ held told still.
          let told_now = inv.3.same ∙ told in
          let sees = c.byte_at.ensures.sees in
          let until = c.next_gate.ensures.sees in
          let since : first.moment ≤ read.moment = omega (arith, inv.3.later, sees.later) in
          let before = inv.6 held told (still_on first now last held (sees_on now read last sees until) still) in
          let byte = byte_still first now read last held c.gates.gate c.in_ok-byte.byte inv.3.later until.later still (c.in_ok-byte.ensures.answer held told_now) in
          let long = known_still first read last held c.gates.len c.in_ok-next.longer since still (sees.same ∙ told_now) before.0 c.in_ok-next.ensures.known in
          let behind = subst (λ o. IfSome o (IsBehind read last c.gates.gate)) c.in-Some.is c.in_ok-next.ensures.behind in
          (long, step_still first read last held c.gates.gate c.in-Some.place since still (sees.same ∙ told_now) before.1 (sym byte.1 ∙ c.if-byte-ne-OPEN.false) behind (omega (arith, long, inside.0, inside.1))),
    )
