-- A fit record is read again from its bytes, whatever stands behind them.
use Rattle.std.proofs.Common.{◌≡◌, ℕ, zero, suc, ◌≤◌, ◌^◌, Bool, true, false, cond, List, [], ◌∷◌, ◌++◌, length, take, drop, Option, None, Some, refl, ap, ◌∙◌, arith, append_assoc}
use Rattle.std.specs.Prelude.{◌==◌, flat_map}
use Rattle.std.specs.Int.{to_be_bytes, from_be_bytes, w16, w32, w64}
use Rattle.std.proofs.lemmas.Nat.{from_be_bytes-to_be_bytes_2, from_be_bytes-to_be_bytes_4, from_be_bytes-to_be_bytes_8}
use Rattle.std.proofs.lemmas.List.{take_at, drop_at}
use Rattle.fsl_record.specs.declared.Record.{Record}
use Rattle.fsl_record.specs.declared.Record.TheVariants as record_of
use Rattle.fsl_record.specs.Receipts.{Brought, receipt_bytes, IsReceipt}
use Rattle.fsl_record.specs.Records.{field_bytes, record_bytes, IsFit}

abbrev pub Piece : Type 0
Piece = Record × List ℕ

abbrev read_fields : ℕ → List ℕ → List (List ℕ) × List ℕ
read_fields zero bytes = ([], bytes)
read_fields (suc n) [] = ([], [])
read_fields (suc n) (size ∷ more) = let r = read_fields n (drop size more) in (take size more ∷ r.0, r.1)

abbrev fields_piece : List ℕ → List ℕ → List (List ℕ) × List ℕ → Piece
fields_piece project server r = (record_of.Config (record { project = project; server = server; fields = r.0 }), r.1)

abbrev config_piece : List ℕ → Piece
config_piece more = fields_piece (take 20 more) (take 20 (drop 20 more)) (read_fields (from_be_bytes w16 (take 2 (drop 20 (drop 20 more)))) (drop 2 (drop 20 (drop 20 more))))

abbrev body_piece : Bool → List ℕ → Option Brought → ℕ → List ℕ → Piece
body_piece private name receipt size body = (record_of.Blob private name receipt (take size body), drop size body)

-- the length of a content, and the content
abbrev content_piece : Bool → List ℕ → Option Brought → List ℕ → Piece
content_piece private name receipt behind = body_piece private name receipt (from_be_bytes w64 (take 8 behind)) (drop 8 behind)

abbrev blob_piece : List ℕ → Piece
blob_piece [] = (record_of.Shun [], [])
blob_piece (p ∷ more) = content_piece (p == 1) (take 20 more) None (drop 20 more)

-- a receipt, and what follows it
abbrev login_piece : (Brought → List ℕ → Piece) → ℕ → ℕ → List ℕ → Piece
login_piece follow moment size behind = follow (record { login = take size behind; moment = moment }) (drop size behind)

abbrev receipt_piece : (Brought → List ℕ → Piece) → List ℕ → Piece
receipt_piece follow bytes = login_piece follow (from_be_bytes w64 (take 8 bytes)) (from_be_bytes w32 (take 4 (drop 8 bytes))) (drop 4 (drop 8 bytes))

abbrev brought_piece : List ℕ → Piece
brought_piece [] = (record_of.Shun [], [])
brought_piece (p ∷ more) = receipt_piece (λ receipt behind. content_piece (p == 1) (take 20 more) (Some receipt) behind) (drop 20 more)

-- the record that bytes begin with, if they begin with one
abbrev pub piece : List ℕ → Piece
piece [] = (record_of.Shun [], [])
piece (b ∷ more) =
    cond (b == 67) (config_piece more)
    (cond (b == 66) (blob_piece more)
    (cond (b == 80) (record_of.Publish (take 20 more), drop 20 more)
    (cond (b == 82) (brought_piece more)
    (cond (b == 85) (record_of.Unshun (take 20 more), drop 20 more) (record_of.Shun (take 20 more), drop 20 more)))))

fields_again : (fs : List (List ℕ)) (rest : List ℕ) → read_fields (length fs) (flat_map field_bytes fs ++ rest) ≡ (fs, rest)
fields_again [] rest = refl
fields_again (f ∷ fs) rest =
    let one : flat_map field_bytes (f ∷ fs) ++ rest ≡ length f ∷ (f ++ (flat_map field_bytes fs ++ rest)) = ap (λ (l : List ℕ). length f ∷ l) (append_assoc f (flat_map field_bytes fs) rest) in
    ap (read_fields (suc (length fs))) one
    ∙ (λ i. (take_at f (flat_map field_bytes fs ++ rest) (length f) refl i ∷ (read_fields (length fs) (drop_at f (flat_map field_bytes fs ++ rest) (length f) refl i)).0, (read_fields (length fs) (drop_at f (flat_map field_bytes fs ++ rest) (length f) refl i)).1))
    ∙ (λ i. (f ∷ (fields_again fs rest i).0, (fields_again fs rest i).1))

abbrev pub pair : Record → List ℕ → Piece
pair r l = (r, l)

named_again : (name rest : List ℕ) (make : List ℕ → Record) → length name ≡ 20 → pair (make (take 20 (name ++ rest))) (drop 20 (name ++ rest)) ≡ pair (make name) rest
named_again name rest make long = λ i. pair (make (take_at name rest 20 long i)) (drop_at name rest 20 long i)

size_length : (n : ℕ) → length (to_be_bytes w64 n) ≡ 8
size_length n = refl

login_size_length : (n : ℕ) → length (to_be_bytes w32 n) ≡ 4
login_size_length n = refl

count_length : (n : ℕ) → length (to_be_bytes w16 n) ≡ 2
count_length n = refl

flag_again : (private : Bool) → ((cond private 1 0) == 1) ≡ private
flag_again true = refl
flag_again false = refl

-- a content behind its length
content_again : (private : Bool) (name : List ℕ) (receipt : Option Brought) (bytes rest : List ℕ) → length bytes ≤ 2 ^ 24
    → content_piece private name receipt (to_be_bytes w64 (length bytes) ++ (bytes ++ rest)) ≡ (record_of.Blob private name receipt bytes, rest)
content_again private name receipt bytes rest small =
    let head = to_be_bytes w64 (length bytes) in
    let size : from_be_bytes w64 (take 8 (head ++ (bytes ++ rest))) ≡ length bytes =
    ap (from_be_bytes w64) (take_at head (bytes ++ rest) 8 (size_length (length bytes))) ∙ from_be_bytes-to_be_bytes_8 (length bytes) (omega (arith, small)) in
    (λ i. body_piece private name receipt (size i) (drop_at head (bytes ++ rest) 8 (size_length (length bytes)) i))
    ∙ (λ i. (record_of.Blob private name receipt (take_at bytes rest (length bytes) refl i), drop_at bytes rest (length bytes) refl i))

blob_again : (private : Bool) (name bytes rest : List ℕ) → length name ≡ 20 → length bytes ≤ 2 ^ 24
    → blob_piece ((cond private 1 0) ∷ (name ++ (to_be_bytes w64 (length bytes) ++ (bytes ++ rest)))) ≡ (record_of.Blob private name None bytes, rest)
blob_again private name bytes rest long small =
    let sized = to_be_bytes w64 (length bytes) ++ (bytes ++ rest) in
    (λ i. content_piece (flag_again private i) (take_at name sized 20 long i) None (drop_at name sized 20 long i))
    ∙ content_again private name None bytes rest small

-- a receipt
receipt_again : (follow : Brought → List ℕ → Piece) (r : Brought) (rest : List ℕ) → IsReceipt r → receipt_piece follow (receipt_bytes r ++ rest) ≡ follow r rest
receipt_again follow r rest fit =
    let moment = to_be_bytes w64 r.moment in
    let size = to_be_bytes w32 (length r.login) in
    let split : receipt_bytes r ++ rest ≡ moment ++ (size ++ (r.login ++ rest)) = append_assoc (moment ++ size) r.login rest ∙ append_assoc moment size (r.login ++ rest) in
    let at_size : drop 8 (receipt_bytes r ++ rest) ≡ size ++ (r.login ++ rest) = ap (drop 8) split ∙ drop_at moment (size ++ (r.login ++ rest)) 8 (size_length r.moment) in
    let at_login : drop 4 (drop 8 (receipt_bytes r ++ rest)) ≡ r.login ++ rest = ap (drop 4) at_size ∙ drop_at size (r.login ++ rest) 4 (login_size_length (length r.login)) in
    let moment_is : from_be_bytes w64 (take 8 (receipt_bytes r ++ rest)) ≡ r.moment =
    ap (λ (l : List ℕ). from_be_bytes w64 (take 8 l)) split ∙ ap (from_be_bytes w64) (take_at moment (size ++ (r.login ++ rest)) 8 (size_length r.moment)) ∙ from_be_bytes-to_be_bytes_8 r.moment (omega (arith, fit.1)) in
    let size_is : from_be_bytes w32 (take 4 (drop 8 (receipt_bytes r ++ rest))) ≡ length r.login =
    ap (λ (l : List ℕ). from_be_bytes w32 (take 4 l)) at_size ∙ ap (from_be_bytes w32) (take_at size (r.login ++ rest) 4 (login_size_length (length r.login))) ∙ from_be_bytes-to_be_bytes_4 (length r.login) (omega (arith, fit.0)) in
    (λ i. login_piece follow (moment_is i) (size_is i) (at_login i))
    ∙ (λ i. follow (record { login = take_at r.login rest (length r.login) refl i; moment = r.moment }) (drop_at r.login rest (length r.login) refl i))

brought_again : (private : Bool) (name : List ℕ) (r : Brought) (bytes rest : List ℕ) → length name ≡ 20 → IsReceipt r → length bytes ≤ 2 ^ 24
    → brought_piece ((cond private 1 0) ∷ (name ++ (receipt_bytes r ++ (to_be_bytes w64 (length bytes) ++ (bytes ++ rest))))) ≡ (record_of.Blob private name (Some r) bytes, rest)
brought_again private name r bytes rest long fit small =
    let sized = to_be_bytes w64 (length bytes) ++ (bytes ++ rest) in
    let stamped = receipt_bytes r ++ sized in
    (λ i. receipt_piece (λ receipt behind. content_piece (flag_again private i) (take_at name stamped 20 long i) (Some receipt) behind) (drop_at name stamped 20 long i))
    ∙ receipt_again (λ receipt behind. content_piece private name (Some receipt) behind) r sized fit
    ∙ content_again private name (Some r) bytes rest small

config_again : (project server : List ℕ) (fields : List (List ℕ)) (rest : List ℕ) → length project ≡ 20 → length server ≡ 20 → length fields ≤ 256
    → config_piece (project ++ (server ++ (to_be_bytes w16 (length fields) ++ (flat_map field_bytes fields ++ rest)))) ≡ (record_of.Config (record { project = project; server = server; fields = fields }), rest)
config_again project server fields rest project_long server_long few =
    let listed = flat_map field_bytes fields ++ rest in
    let counted = to_be_bytes w16 (length fields) ++ listed in
    let one : drop 20 (project ++ (server ++ counted)) ≡ server ++ counted = drop_at project (server ++ counted) 20 project_long in
    let two : drop 20 (drop 20 (project ++ (server ++ counted))) ≡ counted = ap (drop 20) one ∙ drop_at server counted 20 server_long in
    let count : from_be_bytes w16 (take 2 (drop 20 (drop 20 (project ++ (server ++ counted))))) ≡ length fields =
    ap (λ (l : List ℕ). from_be_bytes w16 (take 2 l)) two ∙ ap (from_be_bytes w16) (take_at (to_be_bytes w16 (length fields)) listed 2 (count_length (length fields))) ∙ from_be_bytes-to_be_bytes_2 (length fields) (omega (arith, few)) in
    let left : drop 2 (drop 20 (drop 20 (project ++ (server ++ counted)))) ≡ listed = ap (drop 2) two ∙ drop_at (to_be_bytes w16 (length fields)) listed 2 (count_length (length fields)) in
    (λ i. fields_piece (take_at project (server ++ counted) 20 project_long i) ((ap (take 20) one ∙ take_at server counted 20 server_long) i) (read_fields (count i) (left i)))
    ∙ ap (fields_piece project server) (fields_again fields rest)

-- a fit record that bytes begin with is that one
pub again : (r : Record) (rest : List ℕ) → IsFit r → piece (record_bytes r ++ rest) ≡ (r, rest)
again (record_of.Config c) rest fit =
    ap config_piece (append_assoc ((c.project ++ c.server) ++ to_be_bytes w16 (length c.fields)) (flat_map field_bytes c.fields) rest
    ∙ append_assoc (c.project ++ c.server) (to_be_bytes w16 (length c.fields)) (flat_map field_bytes c.fields ++ rest)
    ∙ append_assoc c.project c.server (to_be_bytes w16 (length c.fields) ++ (flat_map field_bytes c.fields ++ rest)))
    ∙ config_again c.project c.server c.fields rest fit.0.0 fit.0.1 fit.1.few
again (record_of.Blob private name None bytes) rest fit =
    ap (λ (l : List ℕ). blob_piece ((cond private 1 0) ∷ l)) (append_assoc (name ++ to_be_bytes w64 (length bytes)) bytes rest
    ∙ append_assoc name (to_be_bytes w64 (length bytes)) (bytes ++ rest))
    ∙ blob_again private name bytes rest fit.0 fit.1.1
again (record_of.Blob private name (Some r) bytes) rest fit =
    ap (λ (l : List ℕ). brought_piece ((cond private 1 0) ∷ l)) (append_assoc ((name ++ receipt_bytes r) ++ to_be_bytes w64 (length bytes)) bytes rest
    ∙ append_assoc (name ++ receipt_bytes r) (to_be_bytes w64 (length bytes)) (bytes ++ rest)
    ∙ append_assoc name (receipt_bytes r) (to_be_bytes w64 (length bytes) ++ (bytes ++ rest)))
    ∙ brought_again private name r bytes rest fit.0 fit.2 fit.1.1
again (record_of.Publish name) rest fit = named_again name rest (λ n. record_of.Publish n) fit.0
again (record_of.Shun name) rest fit = named_again name rest (λ n. record_of.Shun n) fit.0
again (record_of.Unshun name) rest fit = named_again name rest (λ n. record_of.Unshun n) fit.0
