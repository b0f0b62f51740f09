-- What is left to show of `place`.
use Rattle.std.proofs.Common.{◌≡◌, rules}
use Rattle.std.specs.Str.{bytes_eq}
use Rattle.mmsyntax.specs.Tables.{place_of}
use Rattle.sites.proofs.Places.{place_within}
use Rattle.sites.proofs.indexed.Indexed.place.Goals as goal

pub returns-clause-within : goal.returns-clause-within
returns-clause-within c =
    let w = c.args.word.now in
    let ws = c.args.self.now in
    let place : c.copied.result ≡ place_of (bytes_eq w) ws = search rules in
    place_within (bytes_eq w) ws c.copied.result place
