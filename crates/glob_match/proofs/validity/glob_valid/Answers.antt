use Rattle.std.proofs.Common.{◌≡◌, chars, sym, ◌∙◌}
use Rattle.std.proofs.lemmas.List.{map-id}
use Rattle.std.proofs.lemmas.Iterator.Consumers.{YieldsList-end}
use Rattle.std.proofs.lemmas.Iterator.{YieldsList-from_chars}
use Rattle.glob_match.proofs.validity.ValidityLemmas.{characters_more, characters_end, characters_none}
use Rattle.glob_match.proofs.validity.glob_valid.Goals as goal

pub loop-c-preserved : goal.loop-c-preserved
loop-c-preserved c = characters_more c.loop-c.yielded c.loop-c.cursor c.after-cursor.result c.in-Some.c c.loop-c.invariant c.after-cursor.ensures

pub returns-in-None-cursor : goal.returns-in-None-cursor
returns-in-None-cursor c =
    let end = YieldsList-end (YieldsList-from_chars c.args.glob.now c.utf8.glob cc) c.loop-c.yielded _ c.loop-c.yielded_by _ _ c.in-None.is c.next.ensures.steps in
    let all : c.loop-c.yielded ≡ chars c.args.glob.now = sym (map-id c.loop-c.yielded) ∙ end.0 in
    characters_none (chars c.args.glob.now) c.loop-c.yielded c.loop-c.cursor c.loop-c.invariant all c.in-None-cursor.is

pub returns-in-Some-cursor : goal.returns-in-Some-cursor
returns-in-Some-cursor c =
    let end = YieldsList-end (YieldsList-from_chars c.args.glob.now c.utf8.glob cc) c.loop-c.yielded _ c.loop-c.yielded_by _ _ c.in-None.is c.next.ensures.steps in
    let all : c.loop-c.yielded ≡ chars c.args.glob.now = sym (map-id c.loop-c.yielded) ∙ end.0 in
    characters_end (chars c.args.glob.now) c.loop-c.yielded c.loop-c.cursor c.in-Some-cursor.end c.is_end.result c.loop-c.invariant all c.in-Some-cursor.is c.is_end.ensures
