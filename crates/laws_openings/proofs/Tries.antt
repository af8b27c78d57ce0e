-- What tries leave where it was.
use Rattle.std.specs.Prelude.{◌≡◌, true, false, [], ◌∷◌, ◌++◌}
use Rattle.std.proofs.Common.{inl, inr, sym, ap, ◌∙◌, append_assoc}
use Rattle.std.proofs.lemmas.List.{append-nil}
use Rattle.laws_openings.specs.Chain.{Puts, HeardStays, FirstStays}

pub first_stays : {W : Type 0} (puts : Puts W) → FirstStays puts
first_stays puts low high [] records reached = reached.more
first_stays puts low high (t ∷ before) records (inl put) =
    let first = first_stays puts low high before put.0 put.1 in
    (first.0 ++ t.group, put.3 ∙ ap (λ rs. rs ++ t.group) first.1 ∙ append_assoc low first.0 t.group)
first_stays puts low high (t ∷ before) records (inr kept) = first_stays puts low high before records kept.1

pub heard_stays : {W : Type 0} (puts : Puts W) → HeardStays puts
heard_stays puts low high work group [] before records (inl put) = (put.0, [], put.1, put.2, put.3 ∙ sym (append-nil (put.0 ++ group)))
heard_stays puts low high work group [] before records (inr kept) = let wrong : true ≡ false = kept.0 in absurd (cc)
heard_stays puts low high work group (t ∷ later) before records (inl put) =
    let stays = heard_stays puts low high work group later before put.0 put.1 in
    (stays.0, stays.1 ++ t.group, stays.2, stays.3, put.3 ∙ ap (λ rs. rs ++ t.group) stays.4 ∙ append_assoc (stays.0 ++ group) stays.1 t.group)
heard_stays puts low high work group (t ∷ later) before records (inr kept) = heard_stays puts low high work group later before records kept.1
