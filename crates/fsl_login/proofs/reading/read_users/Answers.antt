use Rattle.std.proofs.Common.{◌∙◌, ◌≤◌, ◌^◌, ℕ, List, Bor, length, map, ap, sym, arith}
use Rattle.std.specs.List.{list_any}
use Rattle.std.specs.BTreeMap.{is_at}
use Rattle.fsl_order.specs.Names.{bytes_cmp, has}
use Rattle.fsl_login.specs.declared.User.{User}
use Rattle.fsl_login.proofs.FileLemmas.{start_read, file_read, next_read}
use Rattle.fsl_login.proofs.reading.read_users.Goals as goal

pub lines-init : goal.lines-init
lines-init c = record {
  read = start_read c.args.bytes.now c.args.users.now c.requires;
  seen = λ q.
      ap (λ ks. list_any (is_at (λ (k : Bor (List ℕ)). bytes_cmp q.now k.now)) ks) c.new-seen.ensures.empty
      ∙ sym (ap (λ (us : List User). has (map (λ u. u.name) us) q.now) c.requires);
}

pub returns-then-cut-clause-users : goal.returns-then-cut-clause-users
returns-then-cut-clause-users c =
    let cut = c.line_at-cut.result in
    file_read c.args.bytes.now cut.line.now c.lines.at c.lines.number cut.end cut.last c.lines.users c.lines.invariant.read c.line_at-cut.ensures c.in_ok-add_line.field-0 c.in_ok-add_line.ensures.good
    c.if-not-branch.false c.if-cut-gt-MOST_OF_USERS.false c.add_line.new.users (c.in_ok-add_line.ensures.users c.if-not-branch.false) c.if-cut.true

pub lines-preserved : goal.lines-preserved
lines-preserved c =
    let cut = c.line_at-cut.result in
    let within = c.if-cut-gt-MOST_OF_USERS.false in
    let short = c.line_at-cut.ensures.short in
    let le : length cut.line.now ≤ 2 ^ 20 = omega arith in
    record {
      read =
          next_read c.args.bytes.now cut.line.now c.lines.at c.lines.number cut.end cut.last c.lines.users c.lines.invariant.read c.line_at-cut.ensures c.in_ok-add_line.field-0 c.in_ok-add_line.ensures.good
          c.if-not-branch.false within c.add_line.new.users (c.in_ok-add_line.ensures.users c.if-not-branch.false) (c.in_ok-add_line.ensures.kept c.if-not-branch.false le c.lines.invariant.read.kept) c.if-cut.false;
      seen = c.in_ok-add_line.ensures.seen c.if-not-branch.false;
    }
