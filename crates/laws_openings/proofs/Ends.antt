-- What lives and openings leave, one after the other.
use Rattle.std.specs.Prelude.{◌≡◌, ℕ, Bool, true, false, if◌then◌else◌, ◌&&◌, List, [], ◌∷◌, ◌++◌, reverse}
use Rattle.std.proofs.Common.{refl, sym, ap, subst, ◌∙◌}
use Rattle.std.proofs.lemmas.List.{reverse-append}
use Rattle.fsl_disk.specs.Disk.{DiskState, IsModelled, Keeps}
use Rattle.fsl_record.specs.declared.Record.{Record}
use Rattle.laws_openings.specs.declared.reopening.Opening.{Opening}
use Rattle.laws_openings.specs.declared.surviving.Lived.{Lived}
use Rattle.laws_openings.specs.Chain.{Puts, AreReached, MayHave, Has, IsLeftBy, try_of}
use Rattle.laws_openings.specs.Lives.{Does, HasEnded, IsLifeOf, AreLives, SurvivesAll, is_done, try_in, tries_of}
use Rattle.laws_openings.specs.Openings.{IsOpeningOf, AreOpenings}

-- unheard: a crash at some moment since the beginning
pub since_beginning : {W : Type 0} (puts : Puts W) (work : W) (group : List Record) (before after left : DiskState) → (IsModelled before → IsModelled after)
    → MayHave puts work group before after → IsLeftBy before after left → Has puts (try_of work false group) before left
since_beginning puts work group before after left ends moments by modelled low high tries here c image =
    (moments modelled low high tries here).each c (by.images (ends modelled) c image)

-- heard: a crash behind the commit
pub since_heard : {W : Type 0} (puts : Puts W) (work : W) (group : List Record) (before after left : DiskState) → (IsModelled before → IsModelled after)
    → (IsModelled after → (c : List ℕ) → after.since after.moment c → after.images c) → Has puts (try_of work true group) before after → IsLeftBy after after left
    → Has puts (try_of work true group) before left
since_heard puts work group before after left ends only done by modelled low high tries here c image =
    done modelled low high tries here c (only (ends modelled) c (by.images (ends modelled) c image))

-- one opening more
pub more_openings : {D : Type 0} (state : D → DiskState) (first : D) (all : List (Opening D)) (mid : D) (o : Opening D) (last : D)
    → AreOpenings state first all mid → IsOpeningOf state mid o last → AreOpenings state first (all ++ o ∷ []) last
more_openings state first [] mid o last same opening = (last, subst (λ d. IsOpeningOf state d o last) same opening, refl)
more_openings state first (x ∷ all) mid o last so_far opening = (so_far.0, so_far.1, more_openings state so_far.0 all mid o last so_far.2 opening)

-- one life more
module _ {D W : Type 0} (state : D → DiskState) (does : Does W) (mid : D) (work : W) (l : Lived D) (last : D) where
  pub more_lives : (first : D) (works : List W) (lives : List (Lived D)) → AreLives state does first works lives mid → IsLifeOf state does work mid l last
      → AreLives state does first (works ++ work ∷ []) (lives ++ l ∷ []) last
  more_lives first [] [] same life = (last, subst (λ d. IsLifeOf state does work d l last) same life, refl)
  more_lives first [] (x ∷ lives) so_far life = absurd so_far
  more_lives first (w ∷ works) [] so_far life = absurd so_far
  more_lives first (w ∷ works) (x ∷ lives) so_far life = (so_far.0, so_far.1, more_lives so_far.0 works lives so_far.2 life)

  pub more_tries : (first : D) (works : List W) (lives : List (Lived D)) → AreLives state does first works lives mid
      → tries_of (works ++ work ∷ []) (lives ++ l ∷ []) ≡ tries_of works lives ++ try_in work l ∷ []
  more_tries first [] [] same = refl
  more_tries first [] (x ∷ lives) so_far = absurd so_far
  more_tries first (w ∷ works) [] so_far = absurd so_far
  more_tries first (w ∷ works) (x ∷ lives) so_far = ap (λ ts. try_in w x ∷ ts) (more_tries so_far.0 works lives so_far.2)

  -- and so what it tried is survived
  pub more_survives : (first : D) (works : List W) (lives : List (Lived D)) → AreLives state does first works lives mid
      → (IsModelled (state first) → IsModelled (state mid)) → SurvivesAll does.puts works lives (state first) (state mid)
      → Has does.puts (try_in work l) (state mid) (state last) → SurvivesAll does.puts (works ++ work ∷ []) (lives ++ l ∷ []) (state first) (state last)
  more_survives first works lives so_far model survived has modelled low high between =
      subst (λ tries. AreReached does.puts low high tries (state last).images)
      (sym (ap reverse (more_tries first works lives so_far) ∙ reverse-append (tries_of works lives) (try_in work l ∷ [])))
      (has (model modelled) low high (reverse (tries_of works lives)) (survived modelled low high between))

-- what was told was done
pub told_done : (done waits told : Bool) → told ≡ (done && waits) → told ≡ true → done ≡ true
told_done true waits told is so = refl
told_done false waits told is so = sym is ∙ so

-- a life and its end
pub heard_life : {D W : Type 0} (state : D → DiskState) (does : Does W) (work : W) (first ended heard : D) (l : Lived D) (left : D) → l.began.value ≡ first
    → l.ended.value ≡ ended → heard ≡ ended → Keeps (state first) (state ended) → HasEnded (does.puts work) (state first) (state ended) l.ending → l.is_heard ≡ (is_done l.ending && does.heard work) → l.is_heard ≡ true
    → IsLeftBy (state heard) (state ended) (state left) → IsLifeOf state does work first l left
heard_life state does work first ended heard l left is_first is_ended is_heard keeps end told waited crash = record {
  began = is_first;
  keeps = subst (λ d. Keeps (state d) (state l.ended.value)) (sym is_first) (subst (λ d. Keeps (state first) (state d)) (sym is_ended) keeps);
  ended =
      subst (λ d. HasEnded (does.puts work) (state d) (state l.ended.value) l.ending) (sym is_first)
      (subst (λ d. HasEnded (does.puts work) (state first) (state d) l.ending) (sym is_ended) end);
  heard = told;
  crash =
      subst (λ b. IsLeftBy (state (if b then l.ended.value else l.began.value)) (state l.ended.value) (state left)) (sym waited)
      (subst (λ d. IsLeftBy (state d) (state d) (state left)) (sym is_ended) (subst (λ d. IsLeftBy (state d) (state ended) (state left)) is_heard crash));
}

pub unheard_life : {D W : Type 0} (state : D → DiskState) (does : Does W) (work : W) (first : D) (began ended : D) (l : Lived D) (left : D) → l.began.value ≡ first
    → l.ended.value ≡ ended → began ≡ first → Keeps (state first) (state ended) → HasEnded (does.puts work) (state first) (state ended) l.ending → l.is_heard ≡ (is_done l.ending && does.heard work) → l.is_heard ≡ false
    → IsLeftBy (state began) (state ended) (state left) → IsLifeOf state does work first l left
unheard_life state does work first began ended l left is_first is_ended is_began keeps end told unheard crash = record {
  began = is_first;
  keeps = subst (λ d. Keeps (state d) (state l.ended.value)) (sym is_first) (subst (λ d. Keeps (state first) (state d)) (sym is_ended) keeps);
  ended =
      subst (λ d. HasEnded (does.puts work) (state d) (state l.ended.value) l.ending) (sym is_first)
      (subst (λ d. HasEnded (does.puts work) (state first) (state d) l.ending) (sym is_ended) end);
  heard = told;
  crash =
      subst (λ b. IsLeftBy (state (if b then l.ended.value else l.began.value)) (state l.ended.value) (state left)) (sym unheard)
      (subst (λ d. IsLeftBy (state l.began.value) (state d) (state left)) (sym is_ended) (subst (λ d. IsLeftBy (state d) (state ended) (state left)) (is_began ∙ sym is_first) crash));
}
