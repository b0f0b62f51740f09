-- The words of an item that stands in a text, one behind the other.
use Rattle.std.proofs.Common.{◌≡◌, ◌∙◌, ℕ, ◌<◌, Bool, true, false, cond, List, [], ◌∷◌, codes, drop, sym, ap, subst, arith}
use Rattle.std.specs.Prelude.{◌||◌, IsTrue}
use mathlib.Core.Bool.{not}
use Rattle.std.specs.Str.{bytes_eq}
use Rattle.std.proofs.lemmas.Bool.{or_right}
use Rattle.std.proofs.lemmas.Slice.Eq.{bytes_eq-Decides}
use Rattle.mmtext.specs.Words.{Word}
use Rattle.mmtext.specs.Text.{Token}
use Rattle.source.specs.Scopes.{is_in}
use Rattle.items.specs.Items.{Item, words, outside}
use Rattle.items.specs.Reading.{tokens_at, end_of, Stands}
use Rattle.arranging.specs.Sections.{is_list, declared}
use Rattle.arranging.proofs.FirstWords.{same_first}

-- the next token is its first word
pub first_word : (text : List ℕ) (at end : ℕ) (x : Item) (t : Token) (us : List Token) → Stands text at x end → at < end
    → tokens_at text at ≡ t ∷ us → (y : Item) × Stands text (end_of t) y end × (words x ≡ t.text ∷ words y)
first_word text at end [] t us h lt e = absurd (omega (arith, h, lt))
first_word text at end (p ∷ ps) t us h lt e =
    let same : h.0 ≡ t = same_first text at h.0 h.1 t us e in (
      ps,
      subst (λ u. Stands text (end_of u) ps end) same h.3,
      ap (λ q. q.word ∷ words ps) h.2 ∙ ap (λ u. u.text ∷ words ps) same,
    )

-- ---- one of some words

pub is_in_here : (v : Word) (ws : List Word) (w : Word) → v ≡ w → IsTrue (is_in (v ∷ ws) w)
is_in_here v ws w e = ap (λ (b : Bool). b || is_in ws w) ((bytes_eq-Decides w v).1 (sym e))

pub is_in_later : (v : Word) (ws : List Word) (w : Word) → IsTrue (is_in ws w) → IsTrue (is_in (v ∷ ws) w)
is_in_later v ws w h = or_right (bytes_eq w v) (is_in ws w) h

-- ---- the words that a statement declares

pub declares_list : (w : Word) (ws : List Word) (v : Word) → is_list w ≡ true → IsTrue (is_in ws v) → IsTrue (is_in (declared (w ∷ ws)) v)
declares_list w [] v list h = absurd cc
declares_list w (u ∷ ws) v list h = ap (λ b. is_in (cond b (u ∷ ws) (cond (bytes_eq u (codes "$f")) (w ∷ drop 1 ws) [])) v) list ∙ h

pub declares_typing : (w u : Word) (ws : List Word) (v : Word) → is_list w ≡ false → bytes_eq u (codes "$f") ≡ true
    → IsTrue (is_in (w ∷ drop 1 ws) v) → IsTrue (is_in (declared (w ∷ u ∷ ws)) v)
declares_typing w u ws v list typing h =
    ap (λ b. is_in (cond b (u ∷ ws) (cond (bytes_eq u (codes "$f")) (w ∷ drop 1 ws) [])) v) list
    ∙ (ap (λ b. is_in (cond b (w ∷ drop 1 ws) []) v) typing ∙ h)

-- ---- one word more, in a comment or outside of one

module _ (is : Bool) (vs : List Word) (w : Word) (ws : List Word) (next : vs ≡ w ∷ ws) where
  pub still_inside : (now : Bool) → is ≡ true → now ≡ not (bytes_eq w (codes "$)")) → outside is vs ≡ outside now ws
  still_inside now inside e = ap (λ b. outside b vs) inside ∙ (ap (outside true) next ∙ ap (λ b. outside b ws) (sym e))

  first_outside : is ≡ false → outside is vs ≡ cond (bytes_eq w (codes "$(")) (outside true ws) (w ∷ outside false ws)
  first_outside out = ap (λ b. outside b vs) out ∙ ap (outside false) next

  pub opens_comment : is ≡ false → bytes_eq w (codes "$(") ≡ true → outside is vs ≡ outside true ws
  opens_comment out e = first_outside out ∙ ap (λ b. cond b (outside true ws) (w ∷ outside false ws)) e

  pub is_said : is ≡ false → bytes_eq w (codes "$(") ≡ false → outside is vs ≡ w ∷ outside false ws
  is_said out e = first_outside out ∙ ap (λ b. cond b (outside true ws) (w ∷ outside false ws)) e
