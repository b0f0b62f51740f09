-- How often commands move an assertion.
use Rattle.std.proofs.Common.{◌≡◌, ◌∙◌, ℕ, suc, Bool, true, false, cond, List, [], ◌∷◌, length, map, Option, Some, None, refl, sym, ap}
use Rattle.std.specs.Prelude.{◌&&◌, filter, filter_map, codes}
use Rattle.std.specs.List.{cons_option}
use Rattle.std.specs.Str.{bytes_eq}
use Rattle.mmtext.specs.Text.{Token}
use Rattle.mmtext.specs.Words.{Word}
use Rattle.mmsyntax.proofs.Names.{bytes_eq-sym}
use Rattle.spreading.specs.Words.{says}
use Rattle.spreading.specs.Forms.{Part}
use Rattle.expanding.specs.Commands.{Command}
use Rattle.expanding.specs.Barred.{moves}
use Rattle.expanding.specs.Bars.{moved_by, moved_in}
use Rattle.expanding.specs.Called.{new_labels}

-- one command more
abbrev many : (w : Word) → List (Word × Word) → ℕ
many w rs = length (new_labels rs w)

one_of : (w label : Word) (b : Bool) (rest : List (Word × Word)) → bytes_eq w label ≡ b
    → many w ((label, label) ∷ rest) ≡ cond b (suc (many w rest)) (many w rest)
one_of w label true rest e = ap (λ t. length (map (λ (r : Word × Word). r.1) (cond t ((label, label) ∷ filter (λ r. bytes_eq w r.0) rest)
    (filter (λ r. bytes_eq w r.0) rest)))) e
one_of w label false rest e = ap (λ t. length (map (λ (r : Word × Word). r.1) (cond t ((label, label) ∷ filter (λ r. bytes_eq w r.0) rest)
    (filter (λ r. bytes_eq w r.0) rest)))) e

-- the same of the commands that pass
module _ (w : Word) (c : Command) (cs : List Command) where
  abbrev passing : Bool → ℕ
  passing t = length (cond t (c ∷ filter (λ d. moves w d.words) cs) (filter (λ d. moves w d.words) cs))

  put : (verb label : Token) (v l : Bool) → bytes_eq w label.text ≡ l → many w (moved_in cs) ≡ length (filter (λ d. moves w d.words) cs)
      → many w (cons_option (cond v (Some (label.text, label.text)) None) (moved_in cs)) ≡ passing (v && l)
  put verb label false l e h = h
  put verb label true true e h = one_of w label.text true (moved_in cs) e ∙ ap (λ n. suc n) h
  put verb label true false e h = one_of w label.text false (moved_in cs) e ∙ h

  one_more : (p : Part) → many w (moved_in cs) ≡ length (filter (λ d. moves w d.words) cs)
      → many w (cons_option (moved_by p) (moved_in cs)) ≡ passing (moves w p)
  one_more [] h = h
  one_more (verb ∷ []) h = h
  one_more (verb ∷ label ∷ rest) h =
      put verb label (says verb (codes "move")) (says label w) (bytes_eq-sym w label.text) h

pub many_moved : (w : Word) (cs : List Command) → length (new_labels (moved_in cs) w) ≡ length (filter (λ c. moves w c.words) cs)
many_moved w [] = refl
many_moved w (c ∷ cs) = one_more w c cs c.words (many_moved w cs)
