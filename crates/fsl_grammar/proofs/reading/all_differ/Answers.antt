use Rattle.std.proofs.Common.{◌≡◌, ap, ◌∙◌, eqb, length, ℕ, arith}
use Rattle.fsl_name.specs.Ref.{ref_bytes}
use Rattle.fsl_grammar.proofs.DifferLemmas.{all_differ, as_long, as_many, by_bytes}
use Rattle.fsl_grammar.proofs.reading.all_differ.Goals as goal

pub returns : goal.returns
returns c =
    let refs = c.args.refs.now in
    let bytes = c.in_ok-sorted.sorted.items in
    let alike = c.in_ok-sorted.ensures in
    let long : c.len.result ≡ length c.dedup.new.self.items = omega (arith, c.len.ensures, c.dedup.new.self.ok.0) in
    ap (λ (n : ℕ). eqb n (length refs)) long
    ∙ ap (λ (n : ℕ). eqb (length c.dedup.new.self.items) n) (as_long (λ b. b.now) ref_bytes bytes refs alike)
    ∙ as_many (λ b. b.now) bytes c.sort_unstable.new.self.items c.dedup.new.self.items c.sort_unstable.ensures.permutation c.sort_unstable.ensures.sorted c.dedup.ensures.filtered
    ∙ ap all_differ alike ∙ by_bytes refs
