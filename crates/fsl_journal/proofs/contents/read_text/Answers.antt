use Rattle.std.proofs.Common.{◌≡◌, length, take, drop, ◌∙◌, ap, refl, arith}
use Rattle.std.proofs.lemmas.List.{take_at}
use Rattle.fsl_disk.proofs.Moments.{quiet_call}
use Rattle.fsl_journal.proofs.Ends.{no_answer, no_success, same_fault}
use Rattle.fsl_journal.proofs.Rereading.{quiet_same}
use Rattle.fsl_journal.proofs.contents.read_text.Goals as goal

pub returns-in_err-bytes : goal.returns-in_err-bytes
returns-in_err-bytes g c =
    let r = c.from_residual.result in
    let is = c.from_residual.ensures.1 in record {
      sized = no_answer r _ is _;
      held = no_answer r _ is _;
      count = no_success r _ is _;
      later = omega arith;
      fault = same_fault r _ is _ refl;
      quiet = quiet_same (g.D.Disk.state c.args.disk.now);
    }

pub read_at-requires : goal.read_at-requires
read_at-requires g c =
    let size : c.in_ok-bytes.bytes.len ≡ c.args.size = c.in_ok-bytes.ensures.len in
    let lent : length c.deref_mut.result.now ≡ c.in_ok-bytes.bytes.len = c.deref_mut.ensures.len in
    λ held told. omega (arith, c.requires.inside held told, size, lent)

pub returns-in_err-read_at : goal.returns-in_err-read_at
returns-in_err-read_at g c =
    let r = c.from_residual-in_err-read_at.result in
    let is = c.from_residual-in_err-read_at.ensures.1 in record {
      sized = no_answer r _ is _;
      held = no_answer r _ is _;
      count = no_success r _ is _;
      later = c.in_err-read_at.ensures.cause.later;
      fault = same_fault r _ is _ c.in_err-read_at.ensures.cause.failed;
      quiet = quiet_call _ _ c.read_at.ensures.call c.read_at.ensures.contents;
    }

pub returns : goal.returns
returns g c =
    let bytes = c.in_ok-bytes.bytes in
    let size : bytes.len ≡ c.args.size = c.in_ok-bytes.ensures.len in
    let lent : length c.deref_mut.result.now ≡ bytes.len = c.deref_mut.ensures.len in
    let filled : length c.read_at.new.into ≡ length c.deref_mut.result.now = c.read_at.auto.into in
    let whole = take_at c.read_at.new.into (drop (length c.read_at.new.into) bytes.items) bytes.len (filled ∙ lent) in record {
      sized = ap length (c.from_vec.ensures ∙ whole) ∙ filled ∙ lent ∙ size;
      held = λ held told. c.from_vec.ensures ∙ whole ∙ c.in_ok-read_at.ensures.answer held told ∙ ap (λ n. take n (drop c.args.at held)) (lent ∙ size);
      count = c.in_ok-read_at.ensures.cause.same;
      later = c.in_ok-read_at.ensures.cause.later;
      fault = tt;
      quiet = quiet_call _ _ c.read_at.ensures.call c.read_at.ensures.contents;
    }
