-- How the text of an entry is read.
use Rattle.std.proofs.Common.{◌≡◌, ℕ, ◌≤◌, true, List, ◌∷◌, ◌++◌, length, drop, option_map, Option, Some, None, refl, sym, ap, subst, ◌∙◌, append_assoc, arith}
use Rattle.std.specs.Prelude.{◌||◌, codes}
use Rattle.std.specs.Prelude.{◌==◌}
use Rattle.std.proofs.lemmas.List.Folds.{list_any-append}
use Rattle.fsl_text.specs.Escapes.{escape}
use Rattle.fsl_name.specs.Name.{name_of}
use Rattle.fsl_date.specs.Moment.{IsMoment, moment_text}
use Rattle.fsl_uv.specs.declared.Entry.{Entry}
use Rattle.fsl_uv.specs.Entries.{IsEntry, entry_text, IsEntryText, hash_text, content, is_path, most_of_content}
use Rattle.fsl_uv.specs.Cards.{hashed}
use Rattle.fsl_uv.specs.Words.{IsHash, stamped, IsContent, IsHeldAs, parts_text, AreParts, HasNoParts}
use Rattle.fsl_uv.proofs.Digests.{name-is}
use Rattle.fsl_uv.proofs.Solid.{Lacks, unique, has-byte, solid-space, solid-newline, moment-solid, hash-solid, escape-solid, one-moment, one-hash}

-- ---- a stamp by its words

abbrev NoStamp : List ℕ → Type 0
NoStamp words = (m : ℕ) (h : Option (List ℕ)) (w : List ℕ) → IsMoment m → IsHash h → words ≡ stamped m h w → ⊥

pub no-space : (words : List ℕ) → Lacks 32 words → NoStamp words
unfolding moment_text
no-space words h m hash w hm hh e = has-byte 32 (moment_text m) (hashed hash ++ 32 ∷ w) (subst (Lacks 32) e h)

module _ (words a r : List ℕ) (lacks : Lacks 32 a) (is : words ≡ a ++ 32 ∷ r) where
  first-word : (m : ℕ) (h : Option (List ℕ)) (w : List ℕ) → IsMoment m → words ≡ stamped m h w → (a ≡ moment_text m) × (r ≡ hashed h ++ 32 ∷ w)
  unfolding moment_text
  first-word m h w hm e = unique 32 a r (moment_text m) (hashed h ++ 32 ∷ w) lacks (solid-space (moment_text m) (moment-solid m hm)) (sym is ∙ e)

  pub no-second-space : Lacks 32 r → NoStamp words
  no-second-space none m h w hm hh e = has-byte 32 (hashed h) w (subst (Lacks 32) (first-word m h w hm e).1 none)

  pub no-moment-word : ((m : ℕ) → IsMoment m → a ≡ moment_text m → ⊥) → NoStamp words
  no-moment-word none m h w hm hh e = none m hm (first-word m h w hm e).0

  pub no-hash-word : (b s : List ℕ) → Lacks 32 b → r ≡ b ++ 32 ∷ s → ((h : Option (List ℕ)) → IsHash h → b ≡ hashed h → ⊥) → NoStamp words
  no-hash-word b s lacks_b is_r none m h w hm hh e =
      none h hh (unique 32 b s (hashed h) w lacks_b (solid-space (hashed h) (hash-solid h hh)) (sym is_r ∙ (first-word m h w hm e).1)).0

  pub stamp-is : (b s : List ℕ) → r ≡ b ++ 32 ∷ s → (m : ℕ) (h : Option (List ℕ)) → a ≡ moment_text m → b ≡ hashed h → words ≡ stamped m h s
  unfolding moment_text
  stamp-is b s is_r m h is_a is_b = is ∙ (λ i. is_a i ++ 32 ∷ (is_r ∙ ap (λ t. t ++ 32 ∷ s) is_b) i)

-- ---- stamps are of one moment, hash and word

pub one-stamp : (m n : ℕ) (h k : Option (List ℕ)) (v w : List ℕ) → IsMoment m → IsMoment n → IsHash h → IsHash k → stamped m h v ≡ stamped n k w → (m ≡ n) × (h ≡ k) × (v ≡ w)
unfolding moment_text
one-stamp m n h k v w hm hn hh hk e =
    let first = unique 32 (moment_text m) (hashed h ++ 32 ∷ v) (moment_text n) (hashed k ++ 32 ∷ w) (solid-space (moment_text m) (moment-solid m hm)) (solid-space (moment_text n) (moment-solid n hn)) e in
    let second = unique 32 (hashed h) v (hashed k) w (solid-space (hashed h) (hash-solid h hh)) (solid-space (hashed k) (hash-solid k hk)) first.1 in
    (one-moment m n hm hn first.0, one-hash h k hh hk second.0, second.1)

-- ---- a stamp has no newline where its word has none

pub lacks-append : (c : ℕ) (a b : List ℕ) → Lacks c a → Lacks c b → Lacks c (a ++ b)
lacks-append c a b h k = list_any-append (λ x. x == c) a b ∙ (λ i. h i || k i)

pub stamp-line : (m : ℕ) (h : Option (List ℕ)) (w : List ℕ) → IsMoment m → IsHash h → Lacks 10 w → Lacks 10 (stamped m h w)
unfolding moment_text
stamp-line m h w hm hh hw =
    lacks-append 10 (moment_text m) (32 ∷ hashed h ++ 32 ∷ w) (solid-newline (moment_text m) (moment-solid m hm))
    (lacks-append 10 (hashed h) (32 ∷ w) (solid-newline (hashed h) (hash-solid h hh)) hw)

-- ---- a text by its parts

module _ (text line held : List ℕ) (lacks : Lacks 10 line) (is : text ≡ line ++ 10 ∷ held) where
  line-is : (m : ℕ) (h : Option (List ℕ)) (w g : List ℕ) → IsMoment m → IsHash h → Lacks 10 w → text ≡ parts_text m h w g → (line ≡ codes "uv " ++ stamped m h w) × (held ≡ g)
  line-is m h w g hm hh hw e = unique 10 line held (codes "uv " ++ stamped m h w) g lacks (stamp-line m h w hm hh hw) (sym is ∙ e)

  pub no-prefix : ((rest : List ℕ) → line ≡ codes "uv " ++ rest → ⊥) → HasNoParts text
  no-prefix none m h w g hm hh hw hc e = none (stamped m h w) (line-is m h w g hm hh hw e).0

  pub no-stamp : (words : List ℕ) → line ≡ codes "uv " ++ words → NoStamp words → HasNoParts text
  no-stamp words is_line none m h w g hm hh hw hc e = none m h w hm hh (ap (drop 3) (sym is_line ∙ (line-is m h w g hm hh hw e).0))

  module _ (words : List ℕ) (m : ℕ) (h : Option (List ℕ)) (w : List ℕ) (hm : IsMoment m) (hh : IsHash h) (is_line : line ≡ codes "uv " ++ words) (is_words : words ≡ stamped m h w) where
    pub no-content : (IsContent h held → ⊥) → HasNoParts text
    no-content none n k v g hn hk hv hc e =
        let l = line-is n k v g hn hk hv e in
        let s = one-stamp m n h k w v hm hn hh hk (sym is_words ∙ ap (drop 3) (sym is_line ∙ l.0)) in
        none (subst (λ x. IsContent x held) (sym s.1) (subst (IsContent k) (sym l.1) hc))

    pub parts-are : IsContent h held → AreParts text m h w held
    parts-are hc = record {
      is_moment = hm;
      is_hash = hh;
      is_content = hc;
      layout = is ∙ ap (λ l. l ++ 10 ∷ held) (is_line ∙ ap (λ t. codes "uv " ++ t) is_words);
      one_line = subst (Lacks 10) (is_line ∙ ap (λ t. codes "uv " ++ t) is_words) lacks;
    }

    pub parts-are-of : (n : ℕ) (k : Option (List ℕ)) (v g : List ℕ) → n ≡ m → k ≡ h → v ≡ w → g ≡ held → IsContent h held → AreParts text n k v g
    parts-are-of n k v g same_m same_h same_w same_g hc =
        subst (λ (p : ℕ × Option (List ℕ) × List ℕ × List ℕ). AreParts text p.0 p.1 p.2 p.3) (λ i. (sym same_m i, sym same_h i, sym same_w i, sym same_g i)) (parts-are hc)

pub no-line : (text : List ℕ) → Lacks 10 text → HasNoParts text
no-line text lacks m h w g hm hh hw hc e = has-byte 10 (codes "uv " ++ stamped m h w) g (subst (Lacks 10) e lacks)

-- ---- an entry by its parts

pub is-hash : (b : Option (List ℕ)) → IsHash (option_map name_of b)
is-hash None = tt
is-hash (Some b) = name-is b

hash-same : (b : Option (List ℕ)) → hashed (option_map name_of b) ≡ hash_text b
hash-same None = refl
hash-same (Some b) = refl

pub text-is-parts : (e : Entry) → entry_text e ≡ parts_text e.moment (option_map name_of e.bytes) (escape e.path) (content e.bytes)
unfolding moment_text
text-is-parts e = ap (λ h. (codes "uv " ++ moment_text e.moment ++ 32 ∷ h ++ 32 ∷ escape e.path) ++ 10 ∷ content e.bytes) (sym (hash-same e.bytes)) ∙ append_assoc (codes "uv ") (stamped e.moment (option_map name_of e.bytes) (escape e.path)) (10 ∷ content e.bytes)

module _ (text : List ℕ) (m : ℕ) (h : Option (List ℕ)) (w held : List ℕ) (p : AreParts text m h w held) where
  same-parts : (e : Entry) → IsEntry e → text ≡ entry_text e → (m ≡ e.moment) × (h ≡ option_map name_of e.bytes) × (w ≡ escape e.path) × (held ≡ content e.bytes)
  same-parts e good is =
      let line = unique 10 (codes "uv " ++ stamped m h w) held (codes "uv " ++ stamped e.moment (option_map name_of e.bytes) (escape e.path)) (content e.bytes)
      p.one_line (stamp-line e.moment (option_map name_of e.bytes) (escape e.path) good.moment (is-hash e.bytes) (solid-newline (escape e.path) (escape-solid e.path))) (sym p.layout ∙ is ∙ text-is-parts e) in
      let s = one-stamp m e.moment h (option_map name_of e.bytes) w (escape e.path) p.is_moment good.moment p.is_hash (is-hash e.bytes) (ap (drop 3) line.0) in
      (s.0, s.1, s.2, line.1)

  -- without a path there is no entry
  pub no-entry : ((q : List ℕ) → is_path q ≡ true → w ≡ escape q → ⊥) → (e : Entry) → IsEntry e → text ≡ entry_text e → ⊥
  no-entry none e good is = none e.path good.path (same-parts e good is).2

  size-of : (bytes : Option (List ℕ)) → IsContent h held → held ≡ content bytes → h ≡ option_map name_of bytes → length (content bytes) ≤ most_of_content
  size-of None hc is same = omega arith
  size-of (Some b) hc is same = subst (λ (x : List ℕ). length x ≤ most_of_content) is (subst (λ x. IsContent x held) same hc).1

  -- with one there is
  pub entry-is : (q : List ℕ) (bytes : Option (List ℕ)) → is_path q ≡ true → w ≡ escape q → IsHeldAs h held bytes → IsEntryText text (record { path = q; moment = m; bytes = bytes })
  entry-is q bytes good is has = (
    record { path = good; moment = p.is_moment; size = size-of bytes p.is_content has.content has.hash },
    p.layout ∙ (λ i. parts_text m (has.hash i) (is i) (has.content i)) ∙ sym (text-is-parts (record { path = q; moment = m; bytes = bytes })),
  )

is-content : (b : Option (List ℕ)) → length (content b) ≤ most_of_content → IsContent (option_map name_of b) (content b)
is-content None h = refl
is-content (Some b) h = (refl, h)

-- a text of no parts is no entry's
pub no-parts : (text : List ℕ) → HasNoParts text → (e : Entry) → IsEntry e → text ≡ entry_text e → ⊥
no-parts text none e good is =
    none e.moment (option_map name_of e.bytes) (escape e.path) (content e.bytes) good.moment (is-hash e.bytes) (solid-newline (escape e.path) (escape-solid e.path)) (is-content e.bytes good.size) (is ∙ text-is-parts e)
