-- Of the code's inside, apart from the rules: how contracts see scripts on the way to those that are run.
use Rattle.std.specs.Prelude.{◌≡◌, ℕ, List, map}
use Rattle.std.specs.List.{AllZip}
use Rattle.std.specs.declared.alloc.Global.{Global}
use Rattle.std.specs.Prelude.{Result, Vec, String, string_bytes}
use Rattle.checking.specs.Checks.{Bytes}
use Rattle.expanding.specs.Views.{IsLaid}
use Rattle.expanding.specs.declared.laid.Laid.{Laid}
use Rattle.expanding.specs.declared.described.Described.{Described}
use Rattle.expanding.specs.Descriptions.{Description}
use Rattle.expanding.specs.InFront.{seen_described}
use Rattle.pasting.specs.declared.quotes.Quote.{Quote as CodeQuote}
use Rattle.pasting.specs.Quotes.{Quote}
use Rattle.pasting.specs.Views.{seen_quote}
use Rattle.std.specs.Borrow.{Bor}
use Rattle.mmtext.specs.Text.{Token}
use Rattle.mmtext.specs.declared.token.Token.{Token as CodeToken}
use Rattle.mmtext.specs.declared.fault.TextFault.{TextFault}
use Rattle.mmtext.specs.Views.{seen, seen_by}
use Rattle.spreading.specs.declared.spreading.SpreadScript.{SpreadScript as CodeSpread}
use Rattle.spreading.specs.Views.{seen_misfit}
use Rattle.expanding.specs.Views.{seen_discouraged}
use Rattle.editscripts.specs.declared.faults.What.{What as CodeWhat}
use Rattle.editscripts.specs.declared.faults.What.TheVariants as code
use Rattle.editscripts.specs.declared.faults.ScriptFault.{ScriptFault as CodeFault}
use Rattle.editscripts.specs.Faults.{What, wordless, unfit, forbidden, discouraged, ScriptFault, fault_in, Key, SpreadScript}
use Rattle.editscripts.specs.Expanded.{RankedScript}

-- faults of scripts
abbrev pub seen_what : CodeWhat → What
seen_what (code.Wordless f) = wordless f
seen_what (code.Unfit m) = unfit (seen_misfit m)
seen_what (code.Forbidden t by) = forbidden (seen t) by.now
seen_what (code.Discouraged d) = discouraged (seen_discouraged d)

abbrev pub seen_fault : CodeFault → ScriptFault
seen_fault f = fault_in f.script (seen_what f.what)

abbrev pub seen_key : ℕ × ℕ × ℕ × Bor (List ℕ) → Key
seen_key k = (k.0, k.1, k.2, k.3.now)

-- what a text is read as
abbrev pub seen_reading : Result (Vec CodeToken Global) TextFault → Result (List Token) TextFault
seen_reading r = seen_by (λ words. map seen words.items) r

-- a script by the source
abbrev pub seen_spread : CodeSpread → SpreadScript
seen_spread x = record { words = map seen x.words.items; misfits = map seen_misfit x.misfits.items }

-- lines
abbrev pub seen_lines : List (String Global) → List Bytes
seen_lines lines = map (λ l. string_bytes l) lines

-- texts
abbrev pub seen_texts : List (Vec ℕ Global) → List Bytes
seen_texts texts = map (λ t. t.items) texts

-- where the transactions of each script begin
abbrev pub beginnings_of : List Laid → List (List ℕ)
beginnings_of laid = map (λ l. l.beginnings.items) laid

-- it is the text of the words of a script with ranks, and remembers them, and where its transactions begin
pub record IsLaidOf (out : RankedScript) (l : Laid) : Type 0 where
  pub laid : IsLaid out.words l
  pub beginnings : l.beginnings.items ≡ out.beginnings

abbrev pub AreLaid : List RankedScript → List Laid → Type 0
AreLaid outs laid = AllZip IsLaidOf outs laid

-- what scripts give in their own words
abbrev pub seen_quotes : List (Vec CodeQuote Global) → List (List Quote)
seen_quotes all = map (λ qs. map seen_quote qs.items) all

-- the descriptions in scripts
abbrev pub seen_descriptions : List (Vec Described Global) → List (List Description)
seen_descriptions all = map (λ ds. map seen_described ds.items) all
