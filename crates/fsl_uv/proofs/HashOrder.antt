-- The hash of no content stands before each name.
use Rattle.std.proofs.Common.{◌≡◌, ℕ, true, List, [], ◌∷◌, length, ap, ◌∙◌, arith}
use Rattle.std.specs.Prelude.{◌==◌, codes}
use Rattle.std.specs.List.{list_all}
use Rattle.std.specs.Ordering.{ordering_reverse}
use Rattle.std.specs.declared.cmp.Ordering.TheVariants.{Less, Greater}
use Rattle.fsl_order.specs.Names.{bytes_cmp}
use Rattle.fsl_order.proofs.Orders.{bytes_cmp-IsTotalOrder}
use Rattle.fsl_order.proofs.Booleans.{first_holds, second_holds}
use Rattle.fsl_name.specs.Name.{IsName, name_text, is_name_digit}
use Rattle.fsl_uv.proofs.Solid.{name-digits}

below : (text : List ℕ) → (length text == 40) ≡ true → list_all is_name_digit text ≡ true → bytes_cmp (45 ∷ []) text ≡ Less
below [] e h = cc
below (b ∷ text) e h = let d = first_holds (is_name_digit b) (list_all is_name_digit text) h in grind (arith, d)

pub none-first : (name : List ℕ) → IsName name → bytes_cmp (codes "-") (name_text name) ≡ Less
none-first name h =
    let digits = name-digits name h in
    below (name_text name) (first_holds (length (name_text name) == 40) (list_all is_name_digit (name_text name)) digits) (second_holds (length (name_text name) == 40) (list_all is_name_digit (name_text name)) digits)

pub none-last : (name : List ℕ) → IsName name → bytes_cmp (name_text name) (codes "-") ≡ Greater
none-last name h = bytes_cmp-IsTotalOrder.antisymm (name_text name) (codes "-") ∙ ap ordering_reverse (none-first name h)
