-- What is left to show of `hashed_number`.
use Rattle.std.proofs.Common.{◌≡◌, ℕ, List, ◌∷◌, [], ◌++◌, length, ap, sym, ◌∙◌, rules, subst, arith}
use Rattle.std.specs.Prelude.{Some, if◌then◌else◌}
use Rattle.std.specs.Str.{bytes_eq}
use Rattle.std.specs.Borrow.{Bor}
use Rattle.std.proofs.lemmas.List.{map-append, length-map}
use Rattle.std.proofs.lemmas.Map.Text.{hash_map_updates_str}
use Rattle.source.specs.Views.{seen_words}
use Rattle.sourceframes.specs.Names.{looks_up, IsTable, words_of}
use Rattle.sourceframes.proofs.Numbered.{named_lasts, table_more}
use Rattle.sourceframes.proofs.table.Table.hashed_number.Goals as goal

pub returns-in-Some-clause-named : goal.returns-in-Some-clause-named
returns-in-Some-clause-named c =
    let w = c.args.word.now in
    let at : c.copied.result ≡ looks_up c.args.self.now.numbers w = search rules in
    named_lasts (words_of c.args.self.now) c.in-Some.number w ((c.requires w c.in-Some.number).0 (sym at ∙ c.in-Some.is))

pub returns-clause-keeps : goal.returns-clause-keeps
returns-clause-keeps c =
    let w = c.args.word.now in
    let old = c.args.self.now in
    let ws = words_of old in
    let at : c.copied.result ≡ looks_up old.numbers w = search rules in
    let more : seen_words c.push.new.self.items ≡ ws ++ w ∷ [] =
    ap seen_words c.in_ok-push.ensures.items ∙ map-append (λ (b : Bor (List ℕ)). b.now) old.words.items (c.args.word ∷ []) in
    let same : c.in-Ok.number ≡ length ws = omega (arith, c.in-Ok.ensures, length-map old.words.items (λ (b : Bor (List ℕ)). b.now)) in
    record {
      sound = subst (λ vs. IsTable c.insert.new.self vs) (sym more)
          (table_more (looks_up old.numbers) (looks_up c.insert.new.self) ws w c.requires (sym at ∙ c.in_default.is)
          (λ v. hash_map_updates_str w old.numbers c.insert.new.self (Some c.in-Ok.number) c.in_ok-insert.ensures.updates v
          ∙ ap (λ n. if bytes_eq w v then Some n else looks_up old.numbers v) same));
      grows = (w ∷ [], more);
    }
