use Rattle.std.proofs.Common.{◌∙◌, not, true, cond, Bool, List, ◌++◌, ◌∷◌, [], map, ap, sym}
use Rattle.std.specs.BTreeMap.{is_at}
use Rattle.fsl_order.specs.Names.{bytes_cmp, has}
use Rattle.fsl_login.specs.declared.User.{User}
use Rattle.fsl_login.specs.UserFiles.{caps_of}
use Rattle.fsl_login.proofs.LineLemmas.{seen_next}
use Rattle.fsl_login.proofs.lines.add_user.Goals as goal

pub returns-clause-new : goal.returns-clause-new
returns-clause-new c = sym c.if-not-branch.false ∙ c.in_ok-insert.ensures.added ∙ ap not (c.requires.seen c.args.name)

pub returns-clause-seen : goal.returns-clause-seen
returns-clause-seen c =
    let users = c.args.users.now in
    let user : User = record { name = c.args.name.now; caps = caps_of c.args.letters.now; secret = c.args.secret.now } in
    λ yes q.
    c.in_ok-insert.ensures.updates.0 q ∙ ap (λ (b : Bool). cond (is_at (bytes_cmp c.args.name.now) q.now) true b) (c.requires.seen q)
    ∙ seen_next users user q.now
    ∙ ap (λ (us : List User). has (map (λ u. u.name) us) q.now) (sym (c.in_ok-push_user.ensures ∙ ap (λ (u : User). users ++ u ∷ []) c.in_ok-user_of.ensures))
