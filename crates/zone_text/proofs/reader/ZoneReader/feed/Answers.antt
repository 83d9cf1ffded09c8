use Rattle.std.proofs.Common.{rules, ◌≡◌, ◌++◌, None, length, take, ap}
use Rattle.zone_text.proofs.ReaderLemmas.{Held, feed_sound, feed_broken}
use Rattle.zone_text.proofs.reader.ZoneReader.feed.Goals as goal

pub returns-in-Ok-clause-sound : goal.returns-in-Ok-clause-sound
returns-in-Ok-clause-sound c =
    let none : c.self.inside.fault ≡ None = search rules in
    let held : c.push_slice.new.self ≡ c.self.inside.left ++ take c.min.result c.args.piece.now = search rules in
    let h : Held c.self.inside.fed.items c.and-self-inside.result.items c.self.inside.left c.push_slice.new.self
    c.args.piece.now (length c.as_slice.result.now) c.min.result =
    record { held_is = held; at_is = ap length c.as_slice.ensures; now_is = c.and-self-inside.ensures; size_is = c.min.ensures } in
    feed_sound c.args.self.now c.self.inside.origin c.self.inside.fed.items c.and-self-inside.result.items
    c.self.inside.left c.push_slice.new.self c.advance.new.left c.args.piece.now
    (length c.as_slice.result.now) c.min.result c.self.inside.fault c.self.inside.progress c.advance.new.progress
    c.self.inside.spot c.in-Ok.spot c.self.view_is h none c.self.invariant c.in-Ok.ensures.reading

pub returns-in-Err-clause-broken : goal.returns-in-Err-clause-broken
returns-in-Err-clause-broken c =
    let held : c.push_slice.new.self ≡ c.self.inside.left ++ take c.min.result c.args.piece.now = search rules in
    λ none known. feed_broken c.args.self.now c.self.inside.origin c.self.inside.fed.items c.self.inside.left
    c.push_slice.new.self c.args.piece.now
    (length c.as_slice.result.now) c.min.result c.self.inside.fault c.self.inside.progress c.self.inside.spot
    c.in-Err.fault c.self.view_is none held (ap length c.as_slice.ensures) c.self.invariant
    (c.in-Err.ensures.broken known)
