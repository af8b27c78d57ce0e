use Rattle.std.proofs.Common.{◌≡◌, ◌∙◌, ◌++◌, ◌∷◌, ℕ, List, [], Option, Some, None, take, refl, sym, ap}
use Rattle.std.specs.Option.{option_or}
use Rattle.std.proofs.lemmas.List.{take_more}
use Rattle.fsl_wiki.specs.declared.Attached.{Attached}
use Rattle.fsl_wiki.specs.Kept.{Lines, file_at, first_file, first_of_file}
use Rattle.fsl_wiki.proofs.reading.first_files.Goals as goal

or_none : (o : Option Attached) → option_or o None ≡ o
or_none None = refl
or_none (Some a) = refl

or_assoc : (a b c : Option Attached) → option_or a (option_or b c) ≡ option_or (option_or a b) c
or_assoc None b c = refl
or_assoc (Some x) b c = refl

one_more : (es : Lines) (file : List ℕ) (ps : List (ℕ × List ℕ)) (p : ℕ × List ℕ) → first_of_file es file (ps ++ p ∷ []) ≡ option_or (first_of_file es file ps) (first_file (file_at es p.1) file)
one_more es file [] p = or_none (first_file (file_at es p.1) file)
one_more es file (o ∷ ps) p =
    ap (option_or (first_file (file_at es o.1) file)) (one_more es file ps p)
    ∙ or_assoc (first_file (file_at es o.1) file) (first_of_file es file ps) (first_file (file_at es p.1) file)

pub loop-place-preserved : goal.loop-place-preserved
loop-place-preserved g c file =
    let es = c.args.facts.now.held.entries in
    let places = c.args.places.now in
    let i = c.loop-place.place-index in
    let p = c.place-item.result in
    c.in_ok-put_first.ensures file
    ∙ (λ j. option_or (c.loop-place.invariant file j) (first_file ((c.in_ok-attached.ensures ∙ ap (file_at es) c.name.ensures) j) file))
    ∙ sym (one_more es file (take i places) p)
    ∙ ap (first_of_file es file) (ap (λ r. take i places ++ r ∷ []) c.place-item.is ∙ sym (take_more places i _ c.loop-place-test.true))
