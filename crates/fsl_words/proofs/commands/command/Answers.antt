use Rattle.std.proofs.Common.{◌≡◌, ℕ, List, Bool, true, false, Option, cond, map, refl, sym, ap, subst, ◌∙◌}
use Rattle.std.specs.Prelude.{string_bytes, codes}
use Rattle.std.specs.Str.{bytes_eq}
use Rattle.std.specs.Cmp.Lexicographic.{bytes_decides}
use Rattle.fsl_words.specs.declared.Command.{Command}
use Rattle.fsl_words.specs.Grammar.{init_command, serve_command, gen_command, pull_command, push_command, clone_command, checkin_command, uv_init_command, tickets_command, plain_command}
use Rattle.fsl_words.specs.Answers.{IsAnswer}
use Rattle.fsl_words.proofs.commands.command.Goals as goal

unlike : (a b : List ℕ) → (a ≡ b → ⊥) → bytes_eq a b ≡ false
unlike a b h = elim (bytes_eq a b) as (λ t. bytes_eq a b ≡ t → t ≡ false) [ true ↦ λ e. absurd (h ((bytes_decides a b).0 e)) | false ↦ λ e. refl ] refl

pub returns-in_default : goal.returns-in_default
returns-in_default c =
    let command = c.args.command.now in
    let words = map string_bytes c.args.words.now in
    let at_tickets : Bool → Option Command = λ b. cond b (tickets_command words) (plain_command command words) in
    let at_uv_init : Bool → Option Command = λ b. cond b (uv_init_command words) (at_tickets (bytes_eq command (codes "tickets"))) in
    let at_checkin : Bool → Option Command = λ b. cond b (checkin_command words) (at_uv_init (bytes_eq command (codes "uv-init"))) in
    let at_clone : Bool → Option Command = λ b. cond b (clone_command words) (at_checkin (bytes_eq command (codes "checkin"))) in
    let at_push : Bool → Option Command = λ b. cond b (push_command words) (at_clone (bytes_eq command (codes "clone"))) in
    let at_pull : Bool → Option Command = λ b. cond b (pull_command words) (at_push (bytes_eq command (codes "push"))) in
    let at_gen : Bool → Option Command = λ b. cond b (gen_command words) (at_pull (bytes_eq command (codes "pull"))) in
    let at_serve : Bool → Option Command = λ b. cond b (serve_command words) (at_gen (bytes_eq command (codes "gen"))) in
    let at_init : Bool → Option Command = λ b. cond b (init_command words) (at_serve (bytes_eq command (codes "serve"))) in
    subst (λ (o : Option Command). IsAnswer o c.plain_command.result)
    (sym (ap at_init (unlike command (codes "init") c.in_default.not-init)
    ∙ ap at_serve (unlike command (codes "serve") c.in_default.not-serve)
    ∙ ap at_gen (unlike command (codes "gen") c.in_default.not-gen)
    ∙ ap at_pull (unlike command (codes "pull") c.in_default.not-pull)
    ∙ ap at_push (unlike command (codes "push") c.in_default.not-push)
    ∙ ap at_clone (unlike command (codes "clone") c.in_default.not-clone)
    ∙ ap at_checkin (unlike command (codes "checkin") c.in_default.not-checkin)
    ∙ ap at_uv_init (unlike command (codes "uv-init") c.in_default.not-text)
    ∙ ap at_tickets (unlike command (codes "tickets") c.in_default.not-tickets)))
    c.plain_command.ensures
