-- What words ask of a serve.
use Rattle.std.proofs.Common.{◌≡◌, ℕ, ◌≤◌, List, Option, Some, None, refl, sym, ap, subst, ◌∙◌}
use Rattle.std.specs.Prelude.{IfSome, option_and_then}
use Rattle.std.specs.Option.{option_map}
use Rattle.fsl_words.specs.declared.Command.{Command}
use Rattle.fsl_words.specs.declared.Command.TheVariants as command_of
use Rattle.fsl_words.specs.declared.Words.{Words}
use Rattle.fsl_words.specs.Grammar.{words_in}
use Rattle.fossil.specs.Acts.{IsObeyable}
use Rattle.fossil.specs.Served.{Serving, serving_of, serving_in, AreStaffed}
use Rattle.fossil.specs.Serving.{IsAsked}
use Rattle.fossil.proofs.WordsLemmas.{obeyable, said_is}

-- what is asked of the command that is read
serving_is : (words : List (List ℕ)) (w : Words) → words_in words ≡ Some w → serving_in words ≡ serving_of w.command
serving_is words w e = ap (λ (o : Option Command). option_and_then serving_of o) (said_is words w e)

requests_by : (o : Option Serving) (r : ℕ) → option_map (λ s. s.requests) o ≡ Some r → (workers : ℕ) × (o ≡ Some (record { workers = workers; requests = r }))
requests_by None r e = absurd (cc)
requests_by (Some s) r e = let same : s.requests ≡ r = cc in (s.workers, ap (λ (n : ℕ). Some (record { workers = s.workers; requests = n })) same)

pub asked_of : (words : List (List ℕ)) (w : Words) (r : ℕ) → words_in words ≡ Some w → option_map (λ s. s.requests) (serving_of w.command) ≡ Some r → IsAsked words r
asked_of words w r e is = let b = requests_by (serving_of w.command) r is in (b.0, serving_is words w e ∙ b.1)

few_by : (command : Command) (r : ℕ) → IsObeyable command → option_map (λ s. s.requests) (serving_of command) ≡ Some r → r ≤ 65536
few_by (command_of.Init project server fields) r fit e = absurd (cc)
few_by command_of.Ingest r fit e = absurd (cc)
few_by command_of.Put r fit e = absurd (cc)
few_by (command_of.Shun name) r fit e = absurd (cc)
few_by (command_of.Unshun name) r fit e = absurd (cc)
few_by (command_of.Ask question) r fit e = absurd (cc)
few_by (command_of.Gen count reversed) r fit e = absurd (cc)
few_by (command_of.Pull address login) r fit e = absurd (cc)
few_by (command_of.Push address login) r fit e = absurd (cc)
few_by (command_of.Clone address server fields) r fit e = absurd (cc)
few_by (command_of.PullLocal path) r fit e = absurd (cc)
few_by (command_of.Checkin parent user comment) r fit e = absurd (cc)
few_by (command_of.Export prefix) r fit e = absurd (cc)
few_by (command_of.Verify prefix) r fit e = absurd (cc)
few_by (command_of.Scrub path) r fit e = absurd (cc)
few_by (command_of.Unversioned asked) r fit e = absurd (cc)
few_by (command_of.Serve address users workers requests) r fit e = let same : requests ≡ r = cc in subst (λ (n : ℕ). n ≤ 65536) same fit.2

-- a worker takes few connections
pub few_asked : (words : List (List ℕ)) (w : Words) (r : ℕ) → words_in words ≡ Some w → option_map (λ s. s.requests) (serving_of w.command) ≡ Some r → r ≤ 65536
few_asked words w r e is = few_by w.command r (obeyable words w e) is

-- words that were read as a serve are staffed by as many crews as they say
pub staffed : (words : List (List ℕ)) (w : Words) (address users : List ℕ) (workers requests : ℕ) → words_in words ≡ Some w → w.command ≡ command_of.Serve address users workers requests → AreStaffed words workers
staffed words w address users workers requests e is =
    let fit : IsObeyable (command_of.Serve address users workers requests) = subst IsObeyable is (obeyable words w e) in
    let asked : serving_in words ≡ Some (record { workers = workers; requests = requests }) = serving_is words w e ∙ ap serving_of is in
    (fit.0, fit.1, subst (λ (o : Option Serving). IfSome o (λ s. workers ≡ s.workers)) (sym asked) refl)
