-- The frame of an assertion: what a proof that cites it sees (Metamath book, section 4.2.7).
use Rattle.std.specs.Prelude.{ℕ, Bool, false, List, ◌==◌, ◌&&◌, ◌||◌, filter, length, nat_lt}
use Rattle.std.specs.List.{list_any, range_with_len}
use Rattle.mmsyntax.specs.declared.statement.Symbol.{Symbol}
use Rattle.mmsyntax.specs.declared.statement.Symbol.TheVariants.{Const, Var}
use Rattle.mmsyntax.specs.declared.statement.Assertion.{Assertion}
use Rattle.mmsyntax.specs.declared.statement.Frame.{Frame}
use Rattle.mmsyntax.specs.Tables.{Tables}

-- the symbol is the variable of the $f at a place
abbrev pub is_variable : ℕ → Symbol → Bool
is_variable j (Const c) = false
is_variable j (Var k) = k == j

-- this variable stands in an expression
unfoldable pub occurs : ℕ → List Symbol → Bool
occurs j e = list_any (is_variable j) e

-- a $f of the prelude is mandatory where its variable stands in a $e or in the statement
abbrev pub is_mandatory : Tables → Assertion → ℕ → Bool
is_mandatory t a j = nat_lt j (length t.floats) && (list_any (occurs j) a.hyps || occurs j a.statement)

-- the mandatory $f in ascending order, the $e, the restricted pairs of two mandatory variables, and the statement
abbrev pub frame : Tables → Assertion → Frame
frame t a = record {
  floats = filter (is_mandatory t a) (range_with_len 0 (length t.floats));
  hyps = a.hyps;
  pairs = filter (λ q. is_mandatory t a q.0 && is_mandatory t a q.1) a.pairs;
  statement = a.statement;
}
