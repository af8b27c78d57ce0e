-- The bytes of a reply.
use Rattle.std.specs.Prelude.{ℕ, List, [], ◌∷◌, length, if◌then◌else◌, ◌==◌, IsTrue, codes, decimal, unwrap_or}
use Rattle.std.specs.List.{list_any, concat}
use Rattle.http.specs.StatusCode.{code_digits, reason_phrase}

-- the statuses that a reply may have
abbrev pub IsStatus : ℕ → Type 0
IsStatus s = IsTrue (list_any (λ c. c == s) (200 ∷ 400 ∷ 404 ∷ 405 ∷ 411 ∷ 413 ∷ 415 ∷ 500 ∷ 503 ∷ []))

-- the phrase of a status
unfoldable pub phrase : ℕ → List ℕ
phrase s = unwrap_or (reason_phrase s) []

-- the field that stands before the length
unfoldable pub field_text : ℕ → List ℕ
field_text s =
    if s == 200 then codes "Content-Type: application/x-fossil-uncompressed\r\n"
    else if s == 405 then codes "Allow: POST\r\n"
    else []

-- only 200 has a body
unfoldable pub body_text : ℕ → List ℕ → List ℕ
body_text s body = if s == 200 then body else []

-- its pieces in their order: the status, its phrase, a field, the length of what is sent and that itself
abbrev pub pieces_text : List ℕ → List ℕ → List ℕ → List ℕ → List ℕ
pieces_text digits phrase field sent = concat (
    codes "HTTP/1.1 " ∷ digits ∷ codes " " ∷ phrase ∷ codes "\r\n" ∷ field
    ∷ codes "Content-Length: " ∷ decimal (length sent) ∷ codes "\r\nConnection: close\r\n\r\n" ∷ sent ∷ [])

-- all of it
unfoldable pub reply_text : ℕ → List ℕ → List ℕ
reply_text s body = pieces_text (code_digits s) (phrase s) (field_text s) (body_text s body)
