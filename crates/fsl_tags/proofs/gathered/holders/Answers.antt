use Rattle.std.proofs.Common.{◌≡◌, ◌∙◌, ◌++◌, ◌∷◌, ◌<◌, [], None, Some, cond, filter, length, sym, ap, arith}
use Rattle.std.proofs.lemmas.List.{append_assoc}
use Rattle.std.specs.Map.{keys_of}
use Rattle.fsl_table.specs.Contents.{first_of}
use Rattle.fsl_table.specs.Pairs.{left_from, rest_after}
use Rattle.fsl_table.proofs.Seconds.{left_rest, rest_none}
use Rattle.fsl_tags.specs.Gathered.{is_shown}
use Rattle.fsl_tags.specs.Laying.{shows}
use Rattle.fsl_tags.proofs.Holding.{first_name, next_name, shorter, shown_next}
use Rattle.fsl_tags.proofs.RowsOf.{of_tag}
use Rattle.fsl_tags.proofs.gathered.holders.Goals as goal

pub loop-next-init : goal.loop-next-init
loop-next-init g c =
    let es = c.args.rows.now.held.entries in
    let ks = keys_of es in
    let p = shows es c.args.tag.now in
    let e : left_from c.first_name-next.result ks ≡ ks =
    ap (λ n. left_from n ks) (c.first_name-next.ensures ∙ first_name es ∙ ap first_of (sym (rest_none ks))) ∙ left_rest None ks c.requires.ordered ∙ rest_none ks in
    λ i. c.new-list.ensures i ++ filter p (e i)

after_next : (g : _) → (c : goal.After-name_after-next g) → left_from c.name_after-next.result (keys_of c.args.rows.now.held.entries) ≡ rest_after (Some c.in-Some.name) (keys_of c.args.rows.now.held.entries)
after_next g c =
    let ks = keys_of c.args.rows.now.held.entries in
    ap (λ n. left_from n ks) (c.name_after-next.ensures ∙ next_name c.in-Some.name c.args.rows.now.held.entries) ∙ left_rest (Some c.in-Some.name) ks c.requires.ordered

before_next : (g : _) → (c : goal.After-name_after-next g) → left_from c.loop-next.next (keys_of c.args.rows.now.held.entries) ≡ c.in-Some.name ∷ rest_after (Some c.in-Some.name) (keys_of c.args.rows.now.held.entries)
before_next g c = ap (λ n. left_from n (keys_of c.args.rows.now.held.entries)) c.in-Some.is

pub loop-next-smaller : goal.loop-next-smaller
loop-next-smaller g c =
    let ks = keys_of c.args.rows.now.held.entries in
    let n = shorter (left_from c.name_after-next.result ks) (left_from c.loop-next.next ks) c.in-Some.name (rest_after (Some c.in-Some.name) ks) (after_next g c) (before_next g c) in
    let less : length (left_from c.name_after-next.result ks) < length (left_from c.loop-next.next ks) = omega (arith, n) in
    less

pub loop-next-preserved : goal.loop-next-preserved
loop-next-preserved g c =
    let es = c.args.rows.now.held.entries in
    let ks = keys_of es in
    let p = shows es c.args.tag.now in
    let rest = rest_after (Some c.in-Some.name) ks in
    let wanted = c.is_shown-wanted.result in
    let is : wanted ≡ p c.in-Some.name = c.is_shown-wanted.ensures ∙ ap is_shown (c.find.ensures ∙ ap (λ row. of_tag row c.args.tag.now) c.row_of.ensures.row) in
    (λ i. c.append_if.new.list ++ filter p (after_next g c i))
    ∙ ap (λ l. l ++ filter p rest) c.in_ok-append_if.ensures
    ∙ append_assoc c.loop-next.list (cond wanted (c.in-Some.name ∷ []) []) (filter p rest)
    ∙ ap (λ l. c.loop-next.list ++ l) (sym (shown_next p c.in-Some.name rest wanted is))
    ∙ ap (λ l. c.loop-next.list ++ filter p l) (sym (before_next g c))
    ∙ c.loop-next.invariant
