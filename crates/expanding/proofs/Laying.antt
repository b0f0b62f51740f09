-- Words as a text, and where they stand.
use Rattle.std.proofs.Common.{◌≡◌, ◌∙◌, ℕ, suc, ◌+◌, ◌-◌, ◌<◌, ◌≤◌, min, cond, List, [], ◌∷◌, ◌++◌, length, map, take, drop, get_or}
use Rattle.std.proofs.lemmas.List.{at_drop_more, at_drop_all}
use Rattle.std.proofs.lemmas.Bool.{cond-true, le-leb}
use Rattle.std.proofs.Common.{refl, ap, ap₂, arith, append_assoc}
use Rattle.std.proofs.lemmas.List.{length-append}
use Rattle.std.proofs.Math.Seq.{take-append_seam, drop-append_seam}
use Rattle.std.specs.Prelude.{nat_le}
use Rattle.mmtext.specs.Text.{Token}
use Rattle.spreading.specs.Words.{text_of, place_at}
use Rattle.expanding.specs.Views.{stretch_of, seen_stretches}
use Rattle.expanding.specs.declared.laid.Stretch.{Stretch}

-- as the code goes through them
abbrev pub stood_at : List Stretch → ℕ → ℕ → ℕ
stood_at [] end byte = end
stood_at (w ∷ ws) end byte = cond (nat_le byte w.length) w.place (stood_at ws end (byte - suc w.length))

pub stood_laid : (ws : List Stretch) (ts : List Token) (end byte : ℕ) → seen_stretches ws ≡ map stretch_of ts
    → stood_at ws end byte ≡ place_at ts end byte
stood_laid [] [] end byte e = refl
stood_laid [] (t ∷ ts) end byte e = absurd cc
stood_laid (w ∷ ws) [] end byte e = absurd cc
stood_laid (w ∷ ws) (t ∷ ts) end byte e =
    let rest : seen_stretches ws ≡ map stretch_of ts = cc in
    let first : (w.length, w.place) ≡ stretch_of t = cc in
    let long : w.length ≡ length t.text = ap (λ (p : ℕ × ℕ). p.0) first in
    let place : w.place ≡ t.place = ap (λ (p : ℕ × ℕ). p.1) first in
    let behind = stood_laid ws ts end (byte - suc w.length) rest in
    rw (behind, long, place) refl

module _ (ws : List Stretch) (i : ℕ) (end left : ℕ) where
  pub stood_here : (d : Stretch) → i < length ws → left ≤ (get_or ws i d).length → stood_at (drop i ws) end left ≡ (get_or ws i d).place
  stood_here d lt le =
      at_drop_more (λ us. stood_at us end left) ws i d lt
      ∙ cond-true (nat_le left (get_or ws i d).length) (get_or ws i d).place
      (stood_at (drop (i + 1) ws) end (left - suc (get_or ws i d).length)) (le-leb left (get_or ws i d).length le)

  pub stood_behind : length ws ≤ i → stood_at (drop i ws) end left ≡ end
  stood_behind le = at_drop_all (λ us. stood_at us end left) ws i le

-- ---- words that are read back

-- as the code goes through them, with so many bytes left
abbrev pub left_in : List Stretch → List ℕ → List Token
left_in [] rest = []
left_in (w ∷ ws) rest =
    let n = min w.length (length rest) in record { place = w.place; text = take n rest } ∷ left_in ws (drop 1 (drop n rest))

pub left_laid : (ws : List Stretch) (ts : List Token) → seen_stretches ws ≡ map stretch_of ts → left_in ws (text_of ts) ≡ ts
left_laid [] [] e = refl
left_laid [] (t ∷ ts) e = absurd cc
left_laid (w ∷ ws) [] e = absurd cc
left_laid (w ∷ ws) (t ∷ ts) e =
    let same : seen_stretches ws ≡ map stretch_of ts = cc in
    let first : (w.length, w.place) ≡ stretch_of t = cc in
    let long : w.length ≡ length t.text = ap (λ (p : ℕ × ℕ). p.0) first in
    let place : w.place ≡ t.place = ap (λ (p : ℕ × ℕ). p.1) first in
    let whole : text_of (t ∷ ts) ≡ t.text ++ (32 ∷ text_of ts) = append_assoc t.text (32 ∷ []) (text_of ts) in
    let many : length (text_of (t ∷ ts)) ≡ length t.text + suc (length (text_of ts)) =
    ap length whole ∙ length-append t.text (32 ∷ text_of ts) in
    let n : min w.length (length (text_of (t ∷ ts))) ≡ length t.text = omega arith in
    let word = ap₂ take n whole ∙ take-append_seam t.text (32 ∷ text_of ts) in
    let behind = ap (drop 1) (ap₂ drop n whole ∙ drop-append_seam t.text (32 ∷ text_of ts)) in
    ap₂ (λ u us. u ∷ us) (ap₂ (λ p x. record { place = p; text = x }) place word) (ap (left_in ws) behind ∙ left_laid ws ts same)
