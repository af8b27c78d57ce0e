-- A message has cards, or fails.
use Rattle.std.proofs.Common.{◌≡◌, ◌⊎◌, inl, inr, ℕ, zero, suc, ◌+◌, ◌<◌, ◌≤◌, ◌^◌, Bool, true, false, List, [], ◌∷◌, ◌++◌, length, length-append, take, drop, option_map, Option, Some, None, if◌then◌else◌, refl, sym, ap, subst, ◌∙◌, arith}
use Rattle.std.specs.Prelude.{◌≢◌, ◌==◌, ◌||◌, codes, decimal}
use Rattle.std.specs.List.{AllByRecursion, list_all}
use Rattle.std.specs.Str.{bytes_eq}
use Rattle.std.specs.Cmp.Lexicographic.{bytes_decides}
use Rattle.std.proofs.lemmas.Bool.{eqb-true}
use Rattle.std.proofs.lemmas.List.{append-nil, length-drop, take_at, drop_at}
use Rattle.fsl_order.proofs.Booleans.{first_holds}
use Rattle.fsl_text.specs.Escapes.{escape, unescape}
use Rattle.fsl_text.specs.Decimals.{decimal_value}
use Rattle.fsl_text.proofs.Unescaping.{unescape-escape}
use Rattle.fsl_text.proofs.DecimalTexts.{decimal_is}
use Rattle.fsl_name.specs.Name.{IsName, name_of, name_text, name_in, is_name_digit}
use Rattle.fsl_name.proofs.ReadAgain.{name_again}
use Rattle.fsl_date.specs.Moment.{moment_text, date_in}
use Rattle.fsl_record.proofs.Deciding.{Decided, decide_by, decide_bool, decide_nat, decide_le, decide_text}
use Rattle.fsl_uv.specs.declared.Card.{Card}
use Rattle.fsl_uv.specs.declared.Card.TheVariants as card_is
use Rattle.fsl_uv.specs.declared.Entry.{Entry}
use Rattle.fsl_uv.specs.declared.UvMessageFault.{UvMessageFault}
use Rattle.fsl_uv.specs.declared.UvMessageFault.TheVariants as message_fault
use Rattle.fsl_uv.specs.declared.fronts.Front.{Front}
use Rattle.fsl_uv.specs.declared.fronts.Front.TheVariants as front_is
use Rattle.fsl_uv.specs.declared.heads.Head.{Head}
use Rattle.fsl_uv.specs.declared.heads.Head.TheVariants as head_is
use Rattle.fsl_uv.specs.declared.heads.Stamped.{Stamped}
use Rattle.fsl_uv.specs.Entries.{is_path, most_of_content}
use Rattle.fsl_uv.specs.Cards.{hashed, IsSized, IsCard, card_text, IsMessage, message_text}
use Rattle.fsl_uv.specs.Words.{stands, IsHash, stamped, IsHeldAs}
use Rattle.fsl_uv.specs.Reading.{IsStamped, stamped_text, IsHead, head_text, IsFront, IsNamedFront, IsFrontFault}
use Rattle.fsl_uv.specs.Stores.{IsMessageFault}
use Rattle.fsl_uv.specs.Refusals.{FailsBy, MessagesReadSomeWay}
use Rattle.fsl_uv.proofs.FrontLemmas.{front-is, no-head, no-newline, more-good, more-layout, more-within, fails}
use Rattle.fsl_uv.proofs.HeadLemmas.{sized-hash, sized-small}
use Rattle.fsl_uv.proofs.Solid.{Lacks, solid-space, moment-again, moment-solid, hash-solid, escape-solid, name-digits}
use Rattle.fsl_uv.proofs.SomeMap.{before, behind, before-is, behind-is, or_zero}

-- ---- what the words of a line would say

abbrev named_as : List ℕ → Option (List ℕ)
named_as word = if bytes_eq word (codes "-") then None else name_in word

named-again : (h : Option (List ℕ)) → IsHash h → named_as (hashed h) ≡ h
named-again None is = refl
named-again (Some name) is = by (bytes_eq (name_text name) (codes "-")) refl
  where
    by : (t : Bool) → bytes_eq (name_text name) (codes "-") ≡ t → named_as (name_text name) ≡ Some name
    by false e = ap (λ (t : Bool). if t then None else name_in (name_text name)) e ∙ name_again name is
    by true e =
        let digits = name-digits name is in
        let forty : length (name_text name) ≡ 40 = eqb-true (length (name_text name)) 40 (first_holds (length (name_text name) == 40) (list_all is_name_digit (name_text name)) digits) in
        let one = ap length ((bytes_decides (name_text name) (codes "-")).0 e) in
        absurd (omega (arith, forty, one))

abbrev stamped_in : List ℕ → Stamped
stamped_in words = record {
  path = unescape (before 32 words);
  moment = or_zero (date_in (before 32 (behind 32 words)));
  hash = named_as (before 32 (behind 32 (behind 32 words)));
  size = decimal_value (behind 32 (behind 32 (behind 32 words)));
}

stamped-again : (s : Stamped) → IsStamped s → stamped_in (stamped_text s) ≡ s
unfolding moment_text
stamped-again s good =
    let size = decimal s.size in
    let rest = hashed s.hash ++ (32 ∷ size) in
    let no_path = solid-space (escape s.path) (escape-solid s.path) in
    let no_moment = solid-space (moment_text s.moment) (moment-solid s.moment good.moment) in
    let no_hash = solid-space (hashed s.hash) (hash-solid s.hash (sized-hash s.hash s.size good.sized)) in
    let first = before-is 32 (escape s.path) (stamped s.moment s.hash size) no_path in
    let others = behind-is 32 (escape s.path) (stamped s.moment s.hash size) no_path in
    let second = ap (before 32) others ∙ before-is 32 (moment_text s.moment) rest no_moment in
    let more = ap (behind 32) others ∙ behind-is 32 (moment_text s.moment) rest no_moment in
    let third = ap (before 32) more ∙ before-is 32 (hashed s.hash) size no_hash in
    let last = ap (behind 32) more ∙ behind-is 32 (hashed s.hash) size no_hash in
    let path = ap unescape first ∙ unescape-escape s.path in
    let moment = ap (λ (w : List ℕ). or_zero (date_in w)) second ∙ ap or_zero (moment-again s.moment good.moment) in
    let hash = ap named_as third ∙ named-again s.hash (sized-hash s.hash s.size good.sized) in
    let number = ap decimal_value last ∙ (decimal_is s.size (sized-small s.hash s.size good.sized)).1 in
    λ i. record { path = path i; moment = moment i; hash = hash i; size = number i }

-- ---- whether a line is a card's

decide_bytes : (text : List ℕ) → Decided (AllByRecursion (λ b. b < 256) text)
decide_bytes [] = inl tt
decide_bytes (b ∷ text) = decide_by (decide_le (suc b) 256) (λ one. decide_by (decide_bytes text) (λ all. inl (one, all)) (λ n h. n h.1)) (λ n h. n h.0)

decide_sized : (h : Option (List ℕ)) (n : ℕ) → Decided (IsSized h n)
decide_sized None n = decide_nat n 0
decide_sized (Some name) n =
    decide_by (decide_nat (length name) 20) (λ long.
    decide_by (decide_bytes name) (λ bytes.
    decide_by (decide_le n most_of_content) (λ size. inl ((long, bytes), size)) (λ none h. none h.1)) (λ none h. none h.0.1)) (λ none h. none h.0.0)

decide_stamped : (s : Stamped) → Decided (IsStamped s)
decide_stamped s =
    decide_by (decide_bool (is_path s.path) true) (λ path.
    decide_by (decide_le (suc s.moment) 315569520000000) (λ moment.
    decide_by (decide_sized s.hash s.size) (λ sized. inl (record { path = path; moment = moment; sized = sized }))
    (λ n h. n h.sized)) (λ n h. n h.moment)) (λ n h. n h.path)

abbrev Says : List ℕ → List ℕ → Type 0
Says operator line = (s : Stamped) × IsStamped s × (line ≡ operator ++ stamped_text s)

decide_said : (operator words line : List ℕ) → ((text : List ℕ) → line ≡ operator ++ text → words ≡ text) → Decided (Says operator line)
decide_said operator words line behind_it =
    decide_by (decide_stamped (stamped_in words)) (λ good.
    decide_by (decide_text line (operator ++ stamped_text (stamped_in words))) (λ is. inl (stamped_in words, good, is))
    (λ n h. n (subst (λ (s : Stamped). line ≡ operator ++ stamped_text s) (same h) h.2))) (λ n h. n (subst IsStamped (same h) h.1))
  where
    same : (h : Says operator line) → h.0 ≡ stamped_in words
    same h = sym (ap stamped_in (behind_it (stamped_text h.0) h.2) ∙ stamped-again h.0 h.1)

abbrev Asks : List ℕ → Type 0
Asks line = (path : List ℕ) × (is_path path ≡ true) × (line ≡ codes "uvgimme " ++ escape path)

decide_asked : (line : List ℕ) → Decided (Asks line)
decide_asked line =
    decide_by (decide_bool (is_path (unescape (drop 8 line))) true) (λ good.
    decide_by (decide_text line (codes "uvgimme " ++ escape (unescape (drop 8 line)))) (λ is. inl (unescape (drop 8 line), good, is))
    (λ n h. n (subst (λ (p : List ℕ). line ≡ codes "uvgimme " ++ escape p) (same h) h.2))) (λ n h. n (subst (λ (p : List ℕ). is_path p ≡ true) (same h) h.1))
  where
    same : (h : Asks line) → h.0 ≡ unescape (drop 8 line)
    same h = sym (ap (λ (l : List ℕ). unescape (drop 8 l)) h.2 ∙ unescape-escape h.0)

abbrev Heads : List ℕ → Type 0
Heads line = (h : Head) × IsHead h × (line ≡ head_text h)

decide_head : (line : List ℕ) → Decided (Heads line)
decide_head line = by (decide_said (codes "uvigot ") (drop 7 line) line (λ text e. ap (drop 7) e)) (decide_said (codes "uvfile ") (drop 7 line) line (λ text e. ap (drop 7) e)) (decide_asked line)
  where
    none : (Says (codes "uvigot ") line → ⊥) → (Says (codes "uvfile ") line → ⊥) → (Asks line → ⊥) → (h : Head) → IsHead h → line ≡ head_text h → ⊥
    none a b c (head_is.Igot s) good e = a (s, good, e)
    none a b c (head_is.File s) good e = b (s, good, e)
    none a b c (head_is.Gimme path) good e = c (path, good, e)

    by : Decided (Says (codes "uvigot ") line) → Decided (Says (codes "uvfile ") line) → Decided (Asks line) → Decided (Heads line)
    by (inl a) b c = inl (head_is.Igot a.0, a.1, a.2)
    by (inr a) (inl b) c = inl (head_is.File b.0, b.1, b.2)
    by (inr a) (inr b) (inl c) = inl (head_is.Gimme c.0, c.1, c.2)
    by (inr a) (inr b) (inr c) = inr (λ h. none a b c h.0 h.1 h.2)

-- ---- what bytes begin with

abbrev Parted : ℕ → List ℕ → Type 0
Parted c text = (text ≡ before c text ++ c ∷ behind c text) × Lacks c (before c text)

-- the same where its first byte is that one, or isn't
abbrev PartedBy : ℕ → ℕ → List ℕ → Bool → Type 0
PartedBy c b text t = (b ∷ text ≡ (if t then [] else b ∷ before c text) ++ c ∷ (if t then text else behind c text)) × Lacks c (if t then [] else b ∷ before c text)

parted : (c : ℕ) (text : List ℕ) → stands c text ≡ true → Parted c text
parted c [] h = absurd cc
parted c (b ∷ text) h = by (λ some. parted c text some) (b == c) refl
  where
    by : (stands c text ≡ true → Parted c text) → (t : Bool) → (b == c) ≡ t → Parted c (b ∷ text)
    by inner true e = subst (PartedBy c b text) (sym e) (ap (λ (x : ℕ). x ∷ text) (eqb-true b c e), refl)
    by inner false e =
        let rest = inner (sym (ap (λ (t : Bool). t || stands c text) e) ∙ h) in
        subst (PartedBy c b text) (sym e) (ap (λ (t : List ℕ). b ∷ t) rest.0, ap (λ (t : Bool). t || stands c (before c text)) e ∙ rest.1)

abbrev Begins : List ℕ → Type 0
Begins bytes = (f : Front) × IsFront bytes f

no-bytes : (xs : List ℕ) → length xs ≡ 0 → xs ≡ []
no-bytes [] e = refl
no-bytes (x ∷ xs) e = absurd (omega (arith, e))

abbrev Named : Stamped → List ℕ → ℕ → Type 0
Named s held total = (f : Front) × IsNamedFront s held total f

-- a file by its line and its content
named : (s : Stamped) (held : List ℕ) (total : ℕ) → IsStamped s → length held ≡ s.size → Named s held total
named s held total good long = by s.hash refl
  where
    of : (bytes : Option (List ℕ)) → IsHeldAs s.hash held bytes → Named s held total
    of bytes is =
        let e : Entry = record { path = s.path; moment = s.moment; bytes = bytes } in
        (front_is.Card (card_is.File e) total, (e, refl, refl, refl, is, refl))

    by_name : (name : List ℕ) → s.hash ≡ Some name → Decided (name ≡ name_of held) → Named s held total
    by_name name e (inl is) = of (Some held) (record { hash = e ∙ ap Some is; content = refl })
    by_name name e (inr other) = (front_is.Misnamed name (name_of held), (e, refl, other))

    by : (h : Option (List ℕ)) → s.hash ≡ h → Named s held total
    by None e =
        let none : s.size ≡ 0 = subst (λ (h : Option (List ℕ)). IsSized h s.size) e good.sized in
        of None (record { hash = e; content = no-bytes held (omega (arith, long, none)) })
    by (Some name) e = by_name name e (decide_text name (name_of held))

module _ (bytes line rest : List ℕ) (lacks : Lacks 10 line) (is : bytes ≡ line ++ 10 ∷ rest) where
  -- a file's line, and whether its content follows
  with-held : (s : Stamped) → IsStamped s → line ≡ head_text (head_is.File s) → Decided ((length (take s.size rest) ≡ s.size) × (rest ≡ take s.size rest ++ 10 ∷ drop (s.size + 1) rest)) → Begins bytes
  with-held s good e (inl there) =
      let n = named s (take s.size rest) (length line + 1 + s.size + 1) good there.0 in
      (n.0, front-is bytes line rest lacks is (head_is.File s) good e n.0 (inr (take s.size rest, there.0, there.1, n.1)))
  with-held s good e (inr none) =
      (front_is.Bad, front-is bytes line rest lacks is (head_is.File s) good e front_is.Bad (inl (refl, λ held more long split. none (there held more long split))))
    where
      there : (held more : List ℕ) → length held ≡ s.size → rest ≡ held ++ 10 ∷ more → (length (take s.size rest) ≡ s.size) × (rest ≡ take s.size rest ++ 10 ∷ drop (s.size + 1) rest)
      there held more long split =
          let front : take s.size rest ≡ held = ap (take s.size) split ∙ take_at held (10 ∷ more) s.size long in
          let longer = length-append held (10 ∷ []) in
          let back : drop (s.size + 1) rest ≡ more = ap (drop (s.size + 1)) (split ∙ sym (assoc held more)) ∙ drop_at (held ++ 10 ∷ []) more (s.size + 1) (omega (arith, long, longer)) in
          (ap length front ∙ long, split ∙ (λ i. sym front i ++ 10 ∷ sym back i))
        where
          assoc : (xs ys : List ℕ) → (xs ++ 10 ∷ []) ++ ys ≡ xs ++ 10 ∷ ys
          assoc [] ys = refl
          assoc (x ∷ xs) ys = ap (λ (t : List ℕ). x ∷ t) (assoc xs ys)

  by-head : Decided (Heads line) → Begins bytes
  by-head (inl (head_is.Igot s, good, e)) =
      (front_is.Card (card_is.Igot s.path s.moment s.hash s.size) (length line + 1), front-is bytes line rest lacks is (head_is.Igot s) good e (front_is.Card (card_is.Igot s.path s.moment s.hash s.size) (length line + 1)) refl)
  by-head (inl (head_is.Gimme path, good, e)) =
      (front_is.Card (card_is.Gimme path) (length line + 1), front-is bytes line rest lacks is (head_is.Gimme path) good e (front_is.Card (card_is.Gimme path) (length line + 1)) refl)
  by-head (inl (head_is.File s, good, e)) =
      with-held s good e
      (decide_by (decide_nat (length (take s.size rest)) s.size) (λ long. decide_by (decide_text rest (take s.size rest ++ 10 ∷ drop (s.size + 1) rest)) (λ split. inl (long, split)) (λ n h. n h.1)) (λ n h. n h.0))
  by-head (inr none) = (front_is.Bad, no-head bytes line rest lacks is (λ h good e. none (h, good, e)))

begins : (bytes : List ℕ) → Begins bytes
begins bytes = by (stands 10 bytes) refl
  where
    by : (t : Bool) → stands 10 bytes ≡ t → Begins bytes
    by false e = (front_is.Bad, no-newline bytes e)
    by true e = let p = parted 10 bytes e in by-head bytes (before 10 bytes) (behind 10 bytes) p.1 p.0 (decide_head (before 10 bytes))

-- ---- card by card

abbrev Reads : List ℕ → Type 0
Reads message = ((cards : List Card) × IsMessage message cards) ⊎ ((fault : UvMessageFault) × FailsBy message fault)

line-isn't-memory : (n : ℕ) → message_fault.Line n ≢ message_fault.Memory
line-isn't-memory n e = cc

name-isn't-memory : (kept found : List ℕ) → message_fault.NameWrong kept found ≢ message_fault.Memory
name-isn't-memory kept found e = cc

-- what is left of a message behind some cards
record Left (message : List ℕ) (cards : List Card) (at : ℕ) : Type 0 where
  good : AllByRecursion IsCard cards
  layout : message ≡ message_text cards ++ drop at message
  within : at ≤ length message

-- one step: the message ends there, or fails there, or a card more stands there
step : (message : List ℕ) (cards : List Card) (at : ℕ) → Left message cards at → ((new : List Card) (more : ℕ) → at < more → Left message new more → Reads message) → (rest : List ℕ) → rest ≡ drop at message → Reads message
step message cards at left go [] is = inl (cards, (left.good, left.layout ∙ ap (λ (t : List ℕ). message_text cards ++ t) (sym is) ∙ append-nil (message_text cards)))
step message cards at left go (b ∷ others) is = by (begins rest).0 (begins rest).1
  where
    rest : List ℕ
    rest = b ∷ others

    some : at < length message
    some = let long = ap length is ∙ length-drop at message in omega (arith, long)

    failing : (fault : UvMessageFault) → IsFrontFault rest (length cards + 1) fault → IsMessageFault message fault
    failing = fails message cards at left.good left.layout left.within rest is some (length cards + 1) refl

    by : (f : Front) → IsFront rest f → Reads message
    by (front_is.Card c size) front =
        go (cards ++ c ∷ []) (at + size) (let more = front.1 in omega (arith, more))
        (record {
          good = more-good message cards at left.good left.layout left.within rest is (cards ++ c ∷ []) c size refl front;
          layout = more-layout message cards at left.good left.layout left.within rest is (cards ++ c ∷ []) c size refl front;
          within = more-within message cards at left.good left.layout left.within rest is (cards ++ c ∷ []) c size refl front;
        })
    by (front_is.Misnamed kept found) front = inr (message_fault.NameWrong kept found, (name-isn't-memory kept found, failing (message_fault.NameWrong kept found) front))
    by front_is.Bad front = inr (message_fault.Line (length cards + 1), (line-isn't-memory (length cards + 1), failing (message_fault.Line (length cards + 1)) (refl, front)))

walk : (fuel : ℕ) (message : List ℕ) (cards : List Card) (at : ℕ) → Left message cards at → length message < at + fuel → Reads message
walk zero message cards at left enough = absurd (let within = left.within in omega (arith, within, enough))
walk (suc fuel) message cards at left enough =
    step message cards at left (λ new more ahead further. walk fuel message new more further (omega (arith, enough, ahead))) (drop at message) refl

pub messages_read_some_way : MessagesReadSomeWay
messages_read_some_way message = walk (suc (length message)) message [] 0 (record { good = tt; layout = refl; within = omega arith }) (omega arith)
