-- The entries of a legal history can be written, and what can be written is within the limits.
use Rattle.std.proofs.Common.{◌≡◌, ◌∙◌, ℕ, ◌<◌, List, Some, length, map, get_or, ap, subst, arith}
use Rattle.std.specs.Prelude.{All, slice_get}
use Rattle.std.proofs.lemmas.List.{length-map, get_or-map}
use Rattle.std.proofs.lemmas.List.Elements.{All-map, All-weaker}
use Rattle.mmsyntax.specs.Tables.{Tables}
use Rattle.std.proofs.lemmas.Option.{slice_get-get_or}
use Rattle.library.specs.declared.library.Ranked.{Ranked}
use Rattle.library.specs.declared.history.Entry.{Entry as CodeEntry}
use Rattle.library.specs.declared.history.Entry.TheVariants.{Void, Done}
use Rattle.library.specs.Library.{Setting, Verifies}
use Rattle.library.specs.Histories.{seen_entry, EntryFits as CommandsFit, EntriesFit, IsLegal}
use Rattle.librarylaws.proofs.Agreeing.{legal_replies_fit}
use Rattle.historytext.specs.Layout.{EntryFitsText}
use Rattle.historytext.specs.Laws.{LegalHistoriesFit}

-- the commands of an entry that can be written are within the limits
told_fits : (t : Tables) (e : CodeEntry) → EntryFitsText t e → CommandsFit t (seen_entry e)
told_fits t Void h = tt
told_fits t (Done commands replies) h = h.0

pub entries_fit : (t : Tables) (es : List CodeEntry) → All (EntryFitsText t) es → EntriesFit t (map seen_entry es)
entries_fit t es h =
    All-map (CommandsFit t) seen_entry es (All-weaker (EntryFitsText t) (λ e. CommandsFit t (seen_entry e)) (told_fits t) es h)

-- an entry at its place, as the definitions see it
pub told_there : (h : List CodeEntry) (i : ℕ) (d : CodeEntry) → i < length h
    → (get_or (map seen_entry h) i (seen_entry d) ≡ seen_entry (get_or h i d))
    × (slice_get (map seen_entry h) i ≡ Some (seen_entry (get_or h i d)))
told_there h i d lt =
    let same = length-map h seen_entry in
    let within : i < length (map seen_entry h) = omega arith in
    let is = get_or-map seen_entry h i d (seen_entry d) lt in
    (is, slice_get-get_or (map seen_entry h) i (seen_entry d) within ∙ ap (λ x. Some x) is)

module _ (s : Setting) (lib0 : List Ranked) (h : List CodeEntry) (v : Verifies s lib0) (fit : EntriesFit s.prelude (map seen_entry h))
    (legal : IsLegal s lib0 (map seen_entry h)) where
  entry_fits : (i : ℕ) (e : CodeEntry) → slice_get (map seen_entry h) i ≡ Some (seen_entry e) → CommandsFit s.prelude (seen_entry e)
      → EntryFitsText s.prelude e
  entry_fits i Void at commands = tt
  entry_fits i (Done cs replies) at commands = (commands, legal_replies_fit s lib0 (map seen_entry h) i cs replies v fit legal at)

pub legal_histories_fit : LegalHistoriesFit
legal_histories_fit s lib0 h v fit legal i d lt =
    let at = told_there h i d lt in
    entry_fits s lib0 h v fit legal i (get_or h i d) at.1
    (subst (CommandsFit s.prelude) at.0 (fit i (seen_entry d) (omega (arith, length-map h seen_entry))))
