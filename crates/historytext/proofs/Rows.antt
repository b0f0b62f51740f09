-- Rows of numbers in a history, that stop and that lead on.
use Rattle.std.proofs.Common.{◌≡◌, ℕ, Bool, true, false, cond, ltb, List, Ok, Err, ap}
use Rattle.std.specs.Str.Parse.{digits_value}
use Rattle.mmtext.specs.declared.fault.FaultKind.TheVariants.{BadToken, TooLong}
use Rattle.mmtext.specs.declared.fault.Stop.{Stop}
use Rattle.mmtext.specs.declared.fault.Stop.TheVariants as stop
use Rattle.mmtext.specs.Text.{Token}
use Rattle.mmtext.specs.Languages.{fault}
use Rattle.mmtext.specs.Views.{Fails}
use Rattle.scripts.specs.ScriptFaults.{is_numeral}
use Rattle.scripts.specs.ScriptViews.{number_at}
use Rattle.library.specs.declared.history.Entry.{Entry}
use Rattle.historytext.specs.Grammar.{highest_count}
use Rattle.historytext.specs.Places.{Answered, Progress, at, at_entry, count_row, wrong, number_row}
use Rattle.historytext.specs.Views.{answer, count_at}

-- where a number isn't one, the row of the number stops
pub number_fails : (highest : ℕ) (u : Token) (behind : ℕ → Answered) (why : Stop) → Fails why (number_at highest u)
    → Fails why (answer u (number_row highest u behind))
number_fails highest u behind stop.Memory h = tt
number_fails highest u behind (stop.Fault f) h = go (is_numeral u.text) (ltb highest (digits_value 10 u.text)) h
  where
    go : (b c : Bool) → cond b (cond c (fault u TooLong) (Ok (digits_value 10 u.text))) (fault u BadToken) ≡ Err f
        → answer u (cond b (cond c (wrong TooLong) (behind (digits_value 10 u.text))) (wrong BadToken)) ≡ Err f
    go true true e = h_is e
      where
        h_is : fault {X = ℕ} u TooLong ≡ Err f → fault {X = Answered} u TooLong ≡ Err f
        h_is e = cc
    go true false e = absurd cc
    go false c e = h_is e
      where
        h_is : fault {X = ℕ} u BadToken ≡ Err f → fault {X = Answered} u BadToken ≡ Err f
        h_is e = cc

-- where a number is one, its row leads on
pub number_leads : (highest : ℕ) (u : Token) (behind : ℕ → Answered) (n : ℕ) → number_at highest u ≡ Ok n
    → number_row highest u behind ≡ behind n
number_leads highest u behind n h = go (is_numeral u.text) (ltb highest (digits_value 10 u.text)) h
  where
    go : (b c : Bool) → cond b (cond c (fault u TooLong) (Ok (digits_value 10 u.text))) (fault u BadToken) ≡ Ok n
        → cond b (cond c (wrong TooLong) (behind (digits_value 10 u.text))) (wrong BadToken) ≡ behind n
    go true true e = absurd cc
    go true false e = let same : digits_value 10 u.text ≡ n = cc in ap behind same
    go false c e = absurd cc

-- where the number of entries isn't one, its row stops
pub count_fails : (entries : List Entry) (u : Token) (why : Stop) → Fails why (count_at u) → Fails why (count_row entries u)
count_fails entries u stop.Memory h = tt
count_fails entries u (stop.Fault f) h = go (is_numeral u.text) (ltb highest_count (digits_value 10 u.text)) h
  where
    go : (b c : Bool) → cond b (cond c (fault u TooLong) (Ok (digits_value 10 u.text))) (fault u BadToken) ≡ Err f
        → cond b (cond c (fault u TooLong) (at entries (at_entry (digits_value 10 u.text)))) (fault u BadToken) ≡ Err f
    go true true e = h_is e
      where
        h_is : fault {X = ℕ} u TooLong ≡ Err f → fault {X = Progress} u TooLong ≡ Err f
        h_is e = cc
    go true false e = absurd cc
    go false c e = h_is e
      where
        h_is : fault {X = ℕ} u BadToken ≡ Err f → fault {X = Progress} u BadToken ≡ Err f
        h_is e = cc
