-- Receipts of artifacts: who brought one, and when. Numbers are written with the greatest byte first.
use Rattle.std.specs.Prelude.{ℕ, ◌^◌, ◌≤◌, List, ◌++◌, length, Option, Some, None, ⊤}
use Rattle.std.specs.Int.{to_be_bytes, w32, w64}
use Rattle.fsl_date.specs.Moment.{IsMoment}

-- a login, and a moment as its milliseconds since the year 0 began
pub record Brought : Type 0 where
  pub login : List ℕ
  pub moment : ℕ

-- the most bytes of a login
abbrev pub most_of_login : ℕ
most_of_login = 2 ^ 20

-- the number of the last moment of the year 9999
abbrev pub last_moment : ℕ
last_moment = 315569519999999

-- what its type keeps of a receipt
abbrev pub IsReceipt : Brought → Type 0
IsReceipt r = (length r.login ≤ most_of_login) × IsMoment r.moment

-- and of one that may be missing
abbrev pub IsReceiptOr : Option Brought → Type 0
IsReceiptOr None = ⊤
IsReceiptOr (Some r) = IsReceipt r

-- its bytes in a record: the moment, and the login behind its length
abbrev pub receipt_bytes : Brought → List ℕ
receipt_bytes r = to_be_bytes w64 r.moment ++ to_be_bytes w32 (length r.login) ++ r.login
