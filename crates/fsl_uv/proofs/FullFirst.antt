-- A sync that is refused for a limit is refused before anything was put in.
use Rattle.std.proofs.Common.{◌≡◌, List, true, false, sym, ap, ◌∙◌}
use Rattle.fsl_uv.specs.declared.Card.{Card}
use Rattle.fsl_uv.specs.Maps.{is_over}
use Rattle.fsl_uv.specs.Syncing.{applied, given, peer_answer}
use Rattle.fsl_uv.specs.Refusals.{FullComesFirst}
use Rattle.fsl_uv.proofs.OneWay.{messages_read_one_way}
use Rattle.fsl_uv.proofs.SyncLemmas.{sync_merges}

pub full_comes_first : FullComesFirst
full_comes_first here there after left answer back stored bytes count same sent p given_is q =
    let mine = messages_read_one_way answer p.1 (peer_answer here.map there.map) p.2 sent in
    let theirs = messages_read_one_way back q.1 (given here.map (peer_answer here.map there.map)) q.2 given_is in
    let fits = ap (λ (cs : List Card). is_over (applied here.map cs)) (sym mine) ∙ p.3 in
    let none = sync_merges.full here.map there.map same fits in
    let no : false ≡ true = sym none ∙ ap (λ (cs : List Card). is_over (applied there.map cs)) (sym theirs) ∙ q.3 in
    cc
