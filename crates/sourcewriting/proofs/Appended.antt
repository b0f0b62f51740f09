-- What letters say with one more of them.
use Rattle.std.proofs.Common.{◌≡◌, ℕ, ◌+◌, ◌*◌, ◌-◌, ◌≤◌, true, List, [], ◌∷◌, ◌++◌, refl, sym, ap, ◌∙◌, append_assoc, append-nil, arith}
use Rattle.std.specs.Prelude.{Option, Some, None, nat_le, ◌&&◌}
use Rattle.std.proofs.lemmas.Bool.{le-leb, lt-leb, le-ltb, and_right, cond-true, cond-false}
use Rattle.source.specs.Letters.{is_last, is_front, is_too_large, turn_at, Decoded, before, turned, decoded}
use Rattle.source.specs.declared.letters.Turn.{Turn}
use Rattle.source.specs.declared.letters.Code.{Code}
use Rattle.source.specs.declared.letters.Code.TheVariants.{Number}
use Rattle.sourcewriting.specs.Letters.{ArePut}

-- ---- one letter behind others that end no code

-- they say nothing themselves
abbrev nothing : ℕ → Option Decoded
nothing front = Some (record { codes = []; front = front })

abbrev codes_in : Option Decoded → List Code
codes_in None = []
codes_in (Some d) = d.codes

abbrev front_in : Option Decoded → ℕ
front_in None = 0
front_in (Some d) = d.front

on_said : (said : Option Code) (rest more : Option Decoded) (front : ℕ) (all : Option Decoded) → before said rest ≡ nothing front
    → (rest ≡ nothing front → more ≡ all) → before said more ≡ all
on_said None rest more front all e later = later e
on_said (Some c) None more front all e later = absurd cc
on_said (Some c) (Some d) more front all e later = let said : c ∷ d.codes ≡ [] = ap codes_in e in absurd cc

on_turn : (turn : Option Turn) (letters more : List ℕ) (front : ℕ) (all : Option Decoded)
    → turned turn (λ f. decoded f letters) ≡ nothing front
    → ((f : ℕ) → decoded f letters ≡ nothing front → decoded f more ≡ all) → turned turn (λ f. decoded f more) ≡ all
on_turn None letters more front all e later = absurd cc
on_turn (Some t) letters more front all e later =
    on_said t.said (decoded t.front letters) (decoded t.front more) front all e (later t.front)

one_letter : (letters : List ℕ) (from front b : ℕ) → decoded from letters ≡ nothing front
    → decoded from (letters ++ b ∷ []) ≡ decoded front (b ∷ [])
unfolding decoded
one_letter [] from front b e = ap (λ d. decoded (front_in d) (b ∷ [])) e
one_letter (x ∷ letters) from front b e =
    on_turn (turn_at from x) letters (letters ++ b ∷ []) front (decoded front (b ∷ [])) e (λ f. one_letter letters f front b)

-- ---- what a letter does

within : (low b high : ℕ) → low ≤ b → b ≤ high → (nat_le low b && nat_le b high) ≡ true
within low b high above below =
    let from : nat_le low b ≡ true = le-leb low b above in
    let to : nat_le b high ≡ true = le-leb b high below in
    rw (from, to)

-- one of U to Y
turn_front : (front b : ℕ) → front ≤ 13421772 → 85 ≤ b → b ≤ 89 → decoded front (b ∷ []) ≡ nothing (5 * front + (b - 84))
unfolding decoded
turn_front front b small low high =
    ap (λ t. turned t nothing) (
    cond-false (is_too_large front) None _ (le-ltb 13421772 front small)
    ∙ cond-false (is_last b) _ _ (and_right (nat_le 65 b) (nat_le b 84) (lt-leb b 84 (omega arith)))
    ∙ cond-true (is_front b) _ _ (within 85 b 89 low high)
    )

-- one of A to T
turn_last : (front b : ℕ) → front ≤ 13421772 → 65 ≤ b → b ≤ 84
    → decoded front (b ∷ []) ≡ Some (record { codes = Number (20 * front + (b - 64)) ∷ []; front = 0 })
unfolding decoded
turn_last front b small low high =
    ap (λ t. turned t nothing) (
    cond-false (is_too_large front) None _ (le-ltb 13421772 front small)
    ∙ cond-true (is_last b) _ _ (within 65 b 84 low high)
    )

-- ---- numbers

-- nothing is put
pub none_put : (letters : List ℕ) → ArePut (record { codes = []; front = 0 }) letters letters
unfolding decoded
none_put letters = record { letters = []; behind = sym (append-nil letters); says = refl }

module _ (old mid new : List ℕ) (front b : ℕ) (put : ArePut (record { codes = []; front = front }) old mid) (is : new ≡ mid ++ b ∷ []) where
  behind : new ≡ old ++ (put.letters ++ b ∷ [])
  behind = is ∙ ap (λ z. z ++ b ∷ []) put.behind ∙ append_assoc old put.letters (b ∷ [])

  -- one of U to Y
  pub front_put : (all : ℕ) → front ≤ 13421772 → 85 ≤ b → b ≤ 89 → 5 * front + (b - 84) ≡ all
      → ArePut (record { codes = []; front = all }) old new
  front_put all small low high e = record {
    letters = put.letters ++ b ∷ [];
    behind = behind;
    says = one_letter put.letters 0 front b put.says ∙ turn_front front b small low high ∙ ap nothing e;
  }

  -- one of A to T
  pub last_put : (all : ℕ) → front ≤ 13421772 → 65 ≤ b → b ≤ 84 → 20 * front + (b - 64) ≡ all
      → ArePut (record { codes = Number all ∷ []; front = 0 }) old new
  last_put all small low high e = record {
    letters = put.letters ++ b ∷ [];
    behind = behind;
    says = one_letter put.letters 0 front b put.says ∙ turn_last front b small low high
        ∙ ap (λ n. Some (record { codes = Number n ∷ []; front = 0 })) e;
  }
