use Rattle.std.proofs.Common.{sym, ap, ◌∙◌, arith}
use Rattle.std.proofs.lemmas.Bool.{false≢true}
use Rattle.fsl_card.proofs.SealLemmas.{apart, digits_of, length-digits_of, seal_line-same}
use Rattle.fsl_card.proofs.seal.sealed.Goals as goal

pub returns-then-text-lt-SEAL_LENGTH-clause-none : goal.returns-then-text-lt-SEAL_LENGTH-clause-none
returns-then-text-lt-SEAL_LENGTH-clause-none c front e = omega (arith, (apart c.args.text.now front e).long)

pub returns-in_default-clause-none : goal.returns-in_default-clause-none
returns-in_default-clause-none c front e =
    c.in_default.ensures.none (digits_of front) (length-digits_of front) (c.split_at.ensures.back ∙ (apart c.args.text.now front e).behind)

pub returns-then-not-is_checksum-clause-none : goal.returns-then-not-is_checksum-clause-none
returns-then-not-is_checksum-clause-none c front e =
    let parts = apart c.args.text.now front e in
    let digits = seal_line-same c.in-Some.digits.now (digits_of front) (sym c.in-Some.ensures.some ∙ c.split_at.ensures.back ∙ parts.behind) in
    false≢true (c.if-not-is_checksum.ensures.1 (digits ∙ ap digits_of (sym (c.split_at.ensures.front ∙ parts.before))))
