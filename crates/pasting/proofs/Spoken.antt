-- Words as a proof: where an opening parenthesis stands in front of them, or not.
use Rattle.std.proofs.Common.{◌≡◌, ◌∙◌, ℕ, Bool, true, false, cond, List, drop}
use Rattle.std.proofs.Common.{Option, Some, None, refl, sym, ap}
use Rattle.mmtext.specs.Text.{Token}
use Rattle.source.specs.Statements.{normal}
use Rattle.expanding.specs.Asking.{spoken_in}
use Rattle.pasting.specs.Proofs.{is_compressed, closing_in, labels_at, labels_among, compressed_at, proof_of}

-- ---- words behind an opening parenthesis, or not

module _ (ws b : List Token) where
  split : (c : Bool) → Some b ≡ cond c (Some (drop 1 ws)) None → (c ≡ true) × (b ≡ drop 1 ws)
  split true e = (refl, cc)
  split false e = absurd cc

unsplit : (ws : List Token) (c : Bool) → None ≡ cond c (Some (drop 1 ws)) None → c ≡ false
unsplit ws true e = absurd cc
unsplit ws false e = refl

module _ (ws : List Token) (none : None ≡ cond (is_compressed ws) (Some (drop 1 ws)) None) where
  pub labels_unopened : ws ≡ labels_among ws
  labels_unopened =
      sym (ap (λ (c : Bool). cond c (labels_at (drop 1 ws) (closing_in (drop 1 ws))) ws) (unsplit ws (is_compressed ws) none))

  pub proof_unopened : Some (normal (spoken_in ws)) ≡ proof_of ws
  proof_unopened =
      sym (ap (λ (c : Bool). cond c (compressed_at (drop 1 ws) (closing_in (drop 1 ws))) (Some (normal (spoken_in ws))))
      (unsplit ws (is_compressed ws) none))

module _ (ws b : List Token) (some : Some b ≡ cond (is_compressed ws) (Some (drop 1 ws)) None) (o : Option ℕ) (is : closing_in b ≡ o) where
  pub labels_opened : labels_at b o ≡ labels_among ws
  labels_opened =
      let p = split ws b (is_compressed ws) some in
      sym (ap (λ (c : Bool). cond c (labels_at (drop 1 ws) (closing_in (drop 1 ws))) ws) p.0
      ∙ ap (λ (ts : List Token). labels_at ts (closing_in ts)) (sym p.1)
      ∙ ap (labels_at b) is)

  pub proof_opened : compressed_at b o ≡ proof_of ws
  proof_opened =
      let p = split ws b (is_compressed ws) some in
      sym (ap (λ (c : Bool). cond c (compressed_at (drop 1 ws) (closing_in (drop 1 ws))) (Some (normal (spoken_in ws)))) p.0
      ∙ ap (λ (ts : List Token). compressed_at ts (closing_in ts)) (sym p.1)
      ∙ ap (compressed_at b) is)
