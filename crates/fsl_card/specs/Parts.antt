-- How far cards have been read.
use Rattle.std.specs.Prelude.{◌≡◌, ℕ, ◌≤◌, ◌==◌, ◌||◌, Bool, true, not, List, [], ◌∷◌, ◌++◌, length, drop, flat_map, Option, Some, None, IsTrue, if◌then◌else◌}
use Rattle.std.specs.List.{list_all, position_or_len, AllByRecursion}
use Rattle.fsl_text.specs.Bytes.{is_empty}
use Rattle.fsl_card.specs.declared.types.Card.{Card}
use Rattle.fsl_card.specs.Cards.{IsCard, in_order, is_argument, is_argument_byte, may_follow, text_of}

-- arguments, each behind a space
abbrev pub arguments_text : List (List ℕ) → List ℕ
arguments_text args = flat_map (λ arg. 32 ∷ arg) args

-- how many bytes stand before the first that can't stand in an argument
abbrev pub argument_length : List ℕ → ℕ
argument_length text = position_or_len (λ b. not (is_argument_byte b)) text

-- a length, where it isn't 0
abbrev pub some_length : ℕ → Option ℕ
some_length n = if n == 0 then None else Some n

-- the length of the argument behind the space that a text begins with
abbrev pub next_argument : List ℕ → Option ℕ
next_argument [] = None
next_argument (b ∷ rest) = if b == 32 then some_length (argument_length rest) else None

-- a text doesn't go on with a byte of an argument
abbrev pub stops : List ℕ → Bool
stops [] = true
stops (b ∷ rest) = not (is_argument_byte b)

-- a text is these arguments, and then a rest; no argument is cut off
pub record AreArgumentsTo (text : List ℕ) (args : List (List ℕ)) (rest : List ℕ) : Type 0 where
  pub each : IsTrue (list_all is_argument args)
  pub spelled : text ≡ arguments_text args ++ rest
  pub whole : IsTrue (is_empty args || stops rest)

-- a text begins with these arguments, which take a number of bytes, and no other argument stands behind them
pub record IsRun (text : List ℕ) (args : List (List ℕ)) (taken : ℕ) : Type 0 where
  pub within : taken ≤ length text
  pub read : AreArgumentsTo text args (drop taken text)
  pub ends : next_argument (drop taken text) ≡ None

-- whether a card may follow the last of some cards
abbrev pub may_follow_all : List Card → Card → Bool
may_follow_all [] next = true
may_follow_all (card ∷ []) next = may_follow card next
may_follow_all (card ∷ other ∷ cards) next = may_follow_all (other ∷ cards) next

-- the text is these cards, each by itself a card that may follow the one before it
pub record AreOrdered (text : List ℕ) (cards : List Card) : Type 0 where
  pub spelled : text ≡ text_of cards
  pub each : AllByRecursion IsCard cards
  pub ordered : IsTrue (in_order cards)

-- the line of a Z card with these digits
abbrev pub seal_line : List ℕ → List ℕ
seal_line digits = 90 ∷ 32 ∷ (digits ++ 10 ∷ [])
