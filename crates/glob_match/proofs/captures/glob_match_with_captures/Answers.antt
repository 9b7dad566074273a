use Rattle.std.proofs.Common.{◌≡◌, chars, rules}
use Rattle.std.proofs.lemmas.Str.{chars_from_encodes}
use Rattle.glob_match.proofs.captures.glob_match_with_captures.Goals as goal

pub returns-in-None-clause-captured : goal.returns-in-None-clause-captured
returns-in-None-clause-captured c =
    let glob : c.in_ok-glob.glob.items ≡ chars c.args.glob.now = search (rules, chars_from_encodes) in
    let path : c.in_ok-characters.characters.items ≡ chars c.args.path.now = search (rules, chars_from_encodes) in
    rw (← glob, ← path) (rw (c.deref.ensures.value, c.deref-2.ensures.value, c.in-None.is) at c.in_ok-captures_in.ensures.captured)

pub byte_ranges-requires : goal.byte_ranges-requires
byte_ranges-requires c =
    let path : c.in_ok-characters.characters.items ≡ chars c.args.path.now = search (rules, chars_from_encodes) in
    rw (c.deref-in-Some.ensures.value, ← path) (rw (c.deref-2.ensures.value, c.in-Some.is) at c.in_ok-captures_in.ensures.within)

pub returns-clause-captured : goal.returns-clause-captured
returns-clause-captured c =
    let glob : c.in_ok-glob.glob.items ≡ chars c.args.glob.now = search (rules, chars_from_encodes) in
    let path : c.in_ok-characters.characters.items ≡ chars c.args.path.now = search (rules, chars_from_encodes) in
    let found = rw (c.deref.ensures.value, c.deref-2.ensures.value, c.in-Some.is, glob, path) at c.in_ok-captures_in.ensures.captured in
    let ranges = rw c.deref-in-Some.ensures.value at c.in_ok-byte_ranges-in-Some.ensures.ranges in
    (found.0, (c.in-Some.captures.items, found.1, ranges))
