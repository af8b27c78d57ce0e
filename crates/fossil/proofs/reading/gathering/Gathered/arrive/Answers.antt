use Rattle.std.proofs.Common.{rules, ◌≡◌, ◌^◌, true, false, length, not, Some, refl}
use Rattle.std.specs.Prelude.{◌||◌, nat_lt}
use Rattle.std.specs.Str.{bytes_eq}
use Rattle.std.specs.BTreeMap.{get}
use Rattle.fsl_order.specs.Names.{bytes_cmp}
use Rattle.fsl_name.specs.Name.{name_of}
use Rattle.fsl_blobs.proofs.ShunnedNames.{shunned_are_not_held}
use Rattle.fossil.specs.declared.reading.gathering.Gathered.{Gathered}
use Rattle.fossil.proofs.GatherLemmas.{present_in, published_in}
use Rattle.fossil.proofs.reading.gathering.Gathered.arrive.Goals as goal

pub returns-in-Some : goal.returns-in-Some
returns-in-Some c =
    let f = c.args.file in
    let g = c.args.self.now in
    let small : nat_lt (2 ^ 24) (length f.bytes) ≡ false = search rules in
    let named : bytes_eq (name_of f.bytes) f.name ≡ true = search rules in
    let known : get bytes_cmp g.facts f.name ≡ Some c.in-Some.fact.now = search rules in
    let stays : (not c.in-Some.fact.now.private || f.private) ≡ true = search rules in
    present_in f g small named shunned_are_not_held c.in-Some.fact.now known stays

pub returns-in-Some-2 : goal.returns-in-Some-2
returns-in-Some-2 c =
    let f = c.args.file in
    let g = c.args.self.now in
    let small : nat_lt (2 ^ 24) (length f.bytes) ≡ false = search rules in
    let named : bytes_eq (name_of f.bytes) f.name ≡ true = search rules in
    let known : get bytes_cmp g.facts f.name ≡ Some c.in-Some.fact.now = search rules in
    let goes : (not c.in-Some.fact.now.private || f.private) ≡ false = search rules in
    let new : Gathered = record { facts = c.make_public.new.facts; bytes = g.bytes; wanted = g.wanted } in
    published_in f g small named shunned_are_not_held c.in-Some.fact.now new known goes c.make_public.ensures refl refl
