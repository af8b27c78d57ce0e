-- What a record's reader has read, and the record or the fault that this makes.
use Rattle.std.proofs.Common.{◌≡◌, ◌≢◌, ℕ, suc, ◌+◌, ◌<◌, ◌≤◌, ◌^◌, Bool, true, false, ltb, List, [], ◌∷◌, ◌++◌, length, get_or, take, drop, None, Some, refl, sym, ◌∙◌, ap, subst, arith, append_assoc, length-append, ◌⊎◌, inl, inr}
use Rattle.std.specs.Prelude.{if◌then◌else◌}
use Rattle.std.specs.Int.{to_be_bytes, from_be_bytes, w16, w32, w64}
use Rattle.std.specs.List.{flat_map}
use Rattle.std.proofs.lemmas.Bool.{ltb-true, ltb-false}
use Rattle.std.proofs.lemmas.List.{take-append-drop, get_or_past, get_or_append_left}
use Rattle.fsl_name.specs.Name.{name_of}
use Rattle.fsl_record.specs.declared.Record.TheVariants as record_of
use Rattle.fsl_record.specs.declared.RecordFault.{RecordFault}
use Rattle.fsl_record.specs.declared.RecordFault.TheVariants as record_fault
use Rattle.fsl_record.specs.Records.{field_bytes, AreFields}
use Rattle.fsl_record.specs.Groups.{IsNameKind, OtherFails, FailsFirst, blob_head, config_head}
use Rattle.fsl_record.specs.Reading.{IsRead, IsFieldRead, AreRead, FieldsFail, Fails}
use Rattle.fsl_record.specs.Brought.{IsPrivateRead, PrivateFails, IsPieceRead, IsReceiptRead, IsContentRead, ContentFails, BroughtFails}
use Rattle.fsl_record.specs.Receipts.{Brought, receipt_bytes}
use Rattle.fsl_record.proofs.Cuts.{AllBytes, number_of_2, number_of_4, number_of_8, name_cut, blob_cut_at_flag, blob_cut_at_head, blob_cut_at_content}

-- ---- pieces

pub record IsSplit (n : ℕ) (bytes front rest : List ℕ) : Type 0 where
  pub layout : bytes ≡ front ++ rest
  pub long : length front ≡ n

pub split_is : (n : ℕ) (bytes front rest : List ℕ) → front ≡ take n bytes → rest ≡ drop n bytes → length rest + n ≡ length bytes → IsSplit n bytes front rest
split_is n bytes front rest front_is rest_is sized =
    let layout : bytes ≡ front ++ rest = sym (take-append-drop n bytes) ∙ (λ i. sym front_is i ++ sym rest_is i) in
    record { layout = layout; long = omega (arith, ap length layout, length-append front rest, sized) }

pub piece_of : (n : ℕ) (bytes front rest : List ℕ) → IsSplit n bytes front rest → IsPieceRead n bytes front rest
piece_of n bytes front rest split = record { layout = split.layout; sized = split.long }

front_bytes : (bytes front rest : List ℕ) → bytes ≡ front ++ rest → AllBytes bytes → (i : ℕ) (t : Bool) → ltb i (length front) ≡ t → get_or front i 0 < 256
front_bytes bytes front rest is all i true inside = subst (λ (b : ℕ). b < 256) (ap (λ (l : List ℕ). get_or l i 0) is ∙ get_or_append_left front rest 0 i (ltb-true i (length front) inside)) (all i)
front_bytes bytes front rest is all i false outside = subst (λ (b : ℕ). b < 256) (sym (get_or_past front i 0 (ltb-false i (length front) outside))) (omega arith)

pub front_all : (bytes front rest : List ℕ) → bytes ≡ front ++ rest → AllBytes bytes → AllBytes front
front_all bytes front rest is all i = front_bytes bytes front rest is all i (ltb i (length front)) refl

pub count_is : (bytes front rest : List ℕ) (count : ℕ) → IsSplit 2 bytes front rest → AllBytes bytes → count ≡ from_be_bytes w16 front → bytes ≡ to_be_bytes w16 count ++ rest
count_is bytes front rest count split all is =
    split.layout ∙ ap (λ (l : List ℕ). l ++ rest) (number_of_2 front split.long (front_all bytes front rest split.layout all) ∙ ap (λ (n : ℕ). to_be_bytes w16 n) (sym is))

pub login_length_is : (bytes front rest : List ℕ) (size : ℕ) → IsSplit 4 bytes front rest → AllBytes bytes → size ≡ from_be_bytes w32 front → bytes ≡ to_be_bytes w32 size ++ rest
login_length_is bytes front rest size split all is =
    split.layout ∙ ap (λ (l : List ℕ). l ++ rest) (number_of_4 front split.long (front_all bytes front rest split.layout all) ∙ ap (λ (n : ℕ). to_be_bytes w32 n) (sym is))

pub length_is : (bytes front rest : List ℕ) (size : ℕ) → IsSplit 8 bytes front rest → AllBytes bytes → size ≡ from_be_bytes w64 front → bytes ≡ to_be_bytes w64 size ++ rest
length_is bytes front rest size split all is =
    split.layout ∙ ap (λ (l : List ℕ). l ++ rest) (number_of_8 front split.long (front_all bytes front rest split.layout all) ∙ ap (λ (n : ℕ). to_be_bytes w64 n) (sym is))

-- ---- a blob

abbrev pub flag : Bool → ℕ
flag private = if private then 1 else 0

pub flag_small : (private : Bool) → flag private ≤ 1
flag_small true = omega arith
flag_small false = omega arith

pub no_head : (v : ℕ) (private : Bool) (bytes more : List ℕ) → bytes ≡ flag private ∷ more → AllBytes bytes → length more < 28 → OtherFails v false (66 ∷ bytes) record_fault.Short
no_head v private bytes more is all short =
    let behind : AllBytes more = λ i. subst (λ (l : List ℕ). AllBytes l) is all (suc i) in
    subst (λ (l : List ℕ). OtherFails v false (66 ∷ l) record_fault.Short) (sym is) (blob_cut_at_head v (flag private) more (flag_small private) short behind)

-- a blob's head was read
pub record IsBlobFront (bytes : List ℕ) (private : Bool) (name : List ℕ) (size : ℕ) (rest : List ℕ) : Type 0 where
  pub layout : bytes ≡ flag private ∷ (name ++ (to_be_bytes w64 size ++ rest))
  pub long : length name ≡ 20

pub blob_front : (bytes one two rest name : List ℕ) (private : Bool) (size : ℕ) → bytes ≡ flag private ∷ one → one ≡ name ++ two → length name ≡ 20 → two ≡ to_be_bytes w64 size ++ rest → IsBlobFront bytes private name size rest
blob_front bytes one two rest name private size at_flag at_name long at_size = record {
  layout = at_flag ∙ ap (λ (l : List ℕ). flag private ∷ l) (at_name ∙ ap (λ (l : List ℕ). name ++ l) at_size);
  long = long;
}

module _ (v : ℕ) (bytes : List ℕ) (private : Bool) (name : List ℕ) (size : ℕ) (rest : List ℕ) (front : IsBlobFront bytes private name size rest) where
  head_layout : 66 ∷ bytes ≡ blob_head (flag private) name size ++ rest
  head_layout = ap (λ (l : List ℕ). 66 ∷ l) front.layout ∙ ap (λ (l : List ℕ). 66 ∷ flag private ∷ l) (sym (append_assoc name (to_be_bytes w64 size) rest))

  pub blob_too_long : 2 ^ 24 < size → size < 2 ^ 64 → OtherFails v false (66 ∷ bytes) (record_fault.Length size)
  blob_too_long long fits = (flag private, name, rest, head_layout, flag_small private, front.long, long, fits)

  pub blob_no_content : size ≤ 2 ^ 24 → length rest < size → OtherFails v false (66 ∷ bytes) record_fault.Short
  blob_no_content small short =
      subst (λ (l : List ℕ). OtherFails v false (66 ∷ l) record_fault.Short) (sym front.layout) (blob_cut_at_content v (flag private) size name rest (flag_small private) front.long small short)

  module _ (content more : List ℕ) (small : size ≤ 2 ^ 24) (is : rest ≡ content ++ more) (sized : length content ≡ size) where
    whole_layout : 66 ∷ bytes ≡ blob_head (flag private) name (length content) ++ content ++ more
    whole_layout =
        head_layout ∙ ap (λ (l : List ℕ). blob_head (flag private) name size ++ l) is ∙ sym (append_assoc (blob_head (flag private) name size) content more)
        ∙ ap (λ (n : ℕ). blob_head (flag private) name n ++ content ++ more) (sym sized)

    pub blob_of_other_name : (found : List ℕ) → found ≡ name_of content → name ≢ found → OtherFails v false (66 ∷ bytes) (record_fault.NameWrong name found)
    blob_of_other_name found is_name other = (flag private, content, more, whole_layout, refl, flag_small private, front.long, omega (arith, sized, small), is_name, other)

    blob_read : name ≡ name_of content → IsRead v false (66 ∷ bytes) (record_of.Blob private name None content) more
    blob_read is_name = record { layout = whole_layout; kind = refl; fit = (front.long, (is_name, omega (arith, sized, small)), tt); known = tt }

-- a fault is one that counts in each version, or want of memory
pub other_fault : (v : ℕ) (due : Bool) (bytes : List ℕ) (fault : RecordFault) → OtherFails v due bytes fault → Fails v due bytes fault
other_fault v due bytes record_fault.Memory fails = tt
other_fault v due bytes record_fault.Short fails = inl fails
other_fault v due bytes (record_fault.Kind found) fails = inl fails
other_fault v due bytes (record_fault.Length found) fails = inl fails
other_fault v due bytes (record_fault.NameWrong kept found) fails = inl fails

-- a blob up to its length
module _ (v : ℕ) (bytes one two name : List ℕ) (private : Bool) (at_flag : IsPrivateRead bytes private one) (at_name : one ≡ name ++ two) (long : length name ≡ 20) where
  front_of : (size : ℕ) (rest : List ℕ) → two ≡ to_be_bytes w64 size ++ rest → IsBlobFront bytes private name size rest
  front_of size rest is = blob_front bytes one two rest name private size at_flag.layout at_name long is

  -- the content behind it fails
  pub blob_content_fails : (fault : RecordFault) → AllBytes bytes → ContentFails name two fault → OtherFails v false (66 ∷ bytes) fault
  blob_content_fails fault all (inl (inl short)) =
      subst (OtherFails v false (66 ∷ bytes)) (sym short.0)
      (no_head v private bytes one at_flag.layout all (omega (arith, short.1, long, ap length at_name, length-append name two)))
  blob_content_fails fault all (inl (inr many)) =
      subst (OtherFails v false (66 ∷ bytes)) (sym many.2) (blob_too_long v bytes private name many.0 many.1 (front_of many.0 many.1 many.3) many.4 many.5)
  blob_content_fails fault all (inr (size, behind, sized, inl short)) =
      subst (OtherFails v false (66 ∷ bytes)) (sym short.0) (blob_no_content v bytes private name size behind (front_of size behind sized.layout) sized.few short.1)
  blob_content_fails fault all (inr (size, behind, sized, inr (content, more, read, wrong))) =
      subst (OtherFails v false (66 ∷ bytes)) (sym wrong.0)
      (blob_of_other_name v bytes private name size behind (front_of size behind sized.layout) content more sized.few read.layout read.sized (name_of content) refl wrong.1)

  pub blob_content_read : (content more : List ℕ) → IsContentRead name two content more → IsRead v false (66 ∷ bytes) (record_of.Blob private name None content) more
  blob_content_read content more read =
      blob_read v bytes private name (length content) (content ++ more) (front_of (length content) (content ++ more) (read.layout ∙ append_assoc (to_be_bytes w64 (length content)) content more)) content more read.few refl refl read.named

  pub blob_content_fault : (fault : RecordFault) → AllBytes bytes → (fault ≡ record_fault.Memory) ⊎ ContentFails name two fault → Fails v false (66 ∷ bytes) fault
  blob_content_fault fault all (inl memory) = subst (Fails v false (66 ∷ bytes)) (sym memory) tt
  blob_content_fault fault all (inr fails) = other_fault v false (66 ∷ bytes) fault (blob_content_fails fault all fails)

-- ---- a blob with a receipt

pub brought_fault : (bytes : List ℕ) (fault : RecordFault) → BroughtFails bytes fault → Fails 2 false (82 ∷ bytes) fault
brought_fault bytes fault fails = whole fault (inr (refl, refl, bytes, refl, fails))
  where
    whole : (f : RecordFault) → FailsFirst 2 false (82 ∷ bytes) f → Fails 2 false (82 ∷ bytes) f
    whole record_fault.Memory one = tt
    whole record_fault.Short one = one
    whole (record_fault.Kind found) one = one
    whole (record_fault.Length found) one = one
    whole (record_fault.NameWrong kept found) one = one

module _ (bytes one two three name : List ℕ) (private : Bool) (r : Brought) (at_flag : IsPrivateRead bytes private one) (at_name : IsPieceRead 20 one name two) (at_receipt : IsReceiptRead two r three) where
  pub brought_content_fault : (fault : RecordFault) → (fault ≡ record_fault.Memory) ⊎ ContentFails name three fault → Fails 2 false (82 ∷ bytes) fault
  brought_content_fault fault (inl memory) = subst (Fails 2 false (82 ∷ bytes)) (sym memory) tt
  brought_content_fault fault (inr fails) = brought_fault bytes fault (inr (private, one, at_flag, inr (name, two, at_name, inr (r, three, at_receipt, fails))))

  pub brought_read : (content more : List ℕ) → IsContentRead name three content more → IsRead 2 false (82 ∷ bytes) (record_of.Blob private name (Some r) content) more
  brought_read content more read = record {
    layout =
        ap (λ (l : List ℕ). 82 ∷ l) at_flag.layout
        ∙ ap (λ (l : List ℕ). 82 ∷ flag private ∷ l) (
        at_name.layout ∙ ap (λ (l : List ℕ). name ++ l) (at_receipt.layout ∙ ap (λ (l : List ℕ). receipt_bytes r ++ l) (read.layout ∙ append_assoc (to_be_bytes w64 (length content)) content more))
        ∙ sym (append_assoc name (receipt_bytes r) (to_be_bytes w64 (length content) ++ (content ++ more)))
        ∙ sym (append_assoc (name ++ receipt_bytes r) (to_be_bytes w64 (length content)) (content ++ more))
        ∙ sym (append_assoc ((name ++ receipt_bytes r) ++ to_be_bytes w64 (length content)) content more)
        );
    kind = refl;
    fit = (at_name.sized, (read.named, omega (arith, read.few)), at_receipt.fit);
    known = refl;
  }

-- ---- a Config

-- a Config's head was read
pub record IsConfigFront (bytes project server : List ℕ) (count : ℕ) (rest : List ℕ) : Type 0 where
  pub layout : bytes ≡ project ++ (server ++ (to_be_bytes w16 count ++ rest))
  pub project_long : length project ≡ 20
  pub server_long : length server ≡ 20

pub config_front : (bytes one two rest project server : List ℕ) (count : ℕ) → bytes ≡ project ++ one → length project ≡ 20 → one ≡ server ++ two → length server ≡ 20 → two ≡ to_be_bytes w16 count ++ rest → IsConfigFront bytes project server count rest
config_front bytes one two rest project server count at_project project_long at_server server_long at_count = record {
  layout = at_project ∙ ap (λ (l : List ℕ). project ++ l) (at_server ∙ ap (λ (l : List ℕ). server ++ l) at_count);
  project_long = project_long;
  server_long = server_long;
}

module _ (v : ℕ) (bytes project server : List ℕ) (count : ℕ) (rest : List ℕ) (front : IsConfigFront bytes project server count rest) where
  codes : List ℕ
  codes = project ++ server

  codes_long : length codes ≡ 40
  unfolding codes
  codes_long = omega (arith, length-append project server, front.project_long, front.server_long)

  config_layout : 67 ∷ bytes ≡ config_head codes count ++ rest
  unfolding codes
  config_layout =
      ap (λ (l : List ℕ). 67 ∷ l) (front.layout ∙ sym (append_assoc project server (to_be_bytes w16 count ++ rest)) ∙ sym (append_assoc (project ++ server) (to_be_bytes w16 count) rest))

  pub config_too_many : 256 < count → count < 2 ^ 16 → Fails v true (67 ∷ bytes) (record_fault.Length count)
  config_too_many many fits = inl (codes, rest, codes_long, inl (config_layout, many, fits))

  config_behind : (good : List (List ℕ)) (more : List ℕ) → rest ≡ flat_map field_bytes good ++ more → 67 ∷ bytes ≡ (config_head codes count ++ flat_map field_bytes good) ++ more
  config_behind good more is =
      config_layout ∙ ap (λ (l : List ℕ). config_head codes count ++ l) is ∙ sym (append_assoc (config_head codes count) (flat_map field_bytes good) more)

  pub config_fields_fail : (fault : RecordFault) → count ≤ 256 → FieldsFail count rest fault → Fails v true (67 ∷ bytes) fault
  config_fields_fail record_fault.Memory few fail = tt
  config_fields_fail (record_fault.Kind found) few fail = absurd fail.fails
  config_fields_fail (record_fault.NameWrong kept found) few fail = absurd fail.fails
  config_fields_fail (record_fault.Length found) few fail =
      let bad = fail.fails in
      let layout : 67 ∷ bytes ≡ config_head codes count ++ flat_map field_bytes fail.good ++ found ∷ bad.0 ++ bad.1 =
      config_behind fail.good fail.rest fail.layout ∙ ap (λ (l : List ℕ). (config_head codes count ++ flat_map field_bytes fail.good) ++ l) bad.2
      ∙ sym (append_assoc (config_head codes count ++ flat_map field_bytes fail.good) (found ∷ bad.0) bad.1) in
      inl (codes, bad.1, codes_long, inr (count, fail.good, bad.0, layout, few, fail.fewer, fail.fit, bad.3, bad.4))
  config_fields_fail record_fault.Short few fail =
      let cut = fail.fails in
      let layout : (67 ∷ bytes) ++ cut.1 ≡ config_head codes count ++ flat_map field_bytes fail.good ++ length cut.0 ∷ cut.0 =
      ap (λ (l : List ℕ). l ++ cut.1) (config_behind fail.good fail.rest fail.layout) ∙ append_assoc (config_head codes count ++ flat_map field_bytes fail.good) fail.rest cut.1
      ∙ ap (λ (l : List ℕ). (config_head codes count ++ flat_map field_bytes fail.good) ++ l) cut.2 in
      inl (inr (cut.1, cut.3, (codes, count, fail.good, cut.0, codes_long, fail.fit, layout, inr (few, fail.fewer))))

  pub config_read : (fields : List (List ℕ)) (more : List ℕ) → AreRead count rest fields more → IsRead v true (67 ∷ bytes) (record_of.Config (record { project = project; server = server; fields = fields })) more
  unfolding codes
  config_read fields more read = record {
    layout = config_behind fields more read.layout ∙ ap (λ (n : ℕ). (config_head (project ++ server) n ++ flat_map field_bytes fields) ++ more) (sym read.counted);
    kind = refl;
    fit = ((front.project_long, front.server_long), read.fields_fit, tt);
    known = tt;
  }

-- ---- a field

pub field_read : (before : List (List ℕ)) (bytes more field rest : List ℕ) (n : ℕ) → bytes ≡ n ∷ more → more ≡ field ++ rest → length field ≡ n → AreFields (before ++ field ∷ []) → IsFieldRead before bytes field rest
field_read before bytes more field rest n is split sized fit = record {
  layout = is ∙ (λ i. sym sized i ∷ split i);
  fit = fit;
}

-- ---- whether a blob is private

pub private_fails : (v : ℕ) (bytes : List ℕ) (fault : RecordFault) → PrivateFails bytes fault → Fails v false (66 ∷ bytes) fault
private_fails v bytes record_fault.Memory fails = tt
private_fails v bytes record_fault.Short fails = inl (subst (λ (l : List ℕ). OtherFails v false (66 ∷ l) record_fault.Short) (sym fails) (blob_cut_at_flag v))
private_fails v bytes (record_fault.Kind found) fails = inl (inr (fails.0, ap (λ (l : List ℕ). 66 ∷ l) fails.1, refl, fails.2))
private_fails v bytes (record_fault.Length found) fails = absurd fails
private_fails v bytes (record_fault.NameWrong kept found) fails = absurd fails

-- ---- a name alone

pub no_whole_name : (v kind : ℕ) (bytes : List ℕ) → IsNameKind v kind → length bytes < 20 → Fails v false (kind ∷ bytes) record_fault.Short
no_whole_name v kind bytes is short = inl (name_cut v kind bytes is short)
