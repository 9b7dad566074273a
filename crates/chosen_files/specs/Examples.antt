-- Small trees, what a walk of a directory gives, and rules, for the worked examples.
use Rattle.std.specs.Prelude.{List, [], ◌∷◌, codes}
use Rattle.sd_io.specs.Tree.{NameList, directory, link, file, Content, Node}
use Rattle.sd_io.specs.declared.meta.Kind.TheVariants as kind
use Rattle.walk_rest.specs.Examples.{entry, item}
use Rattle.walk_rest.specs.Plan.{Item}
use Rattle.sd_ignore.specs.declared.rule.Rule.{Rule}
use Rattle.sd_ignore.specs.Examples.{in_build, no_logs, keep_k}

-- a directory `d` with a file `a`, an empty file `e`, a link `l` to `a`, and a directory `s` with a file `b`
abbrev pub d_nodes : List (NameList × Node)
d_nodes =
    entry [] directory 0 1
    ∷ entry (codes "d" ∷ []) directory 0 2
    ∷ entry (codes "d" ∷ codes "a" ∷ []) (file (codes "hi") 420) 0 3
    ∷ entry (codes "d" ∷ codes "e" ∷ []) (file [] 420) 0 4
    ∷ entry (codes "d" ∷ codes "l" ∷ []) (link (codes "a")) 0 5
    ∷ entry (codes "d" ∷ codes "s" ∷ []) directory 0 6
    ∷ entry (codes "d" ∷ codes "s" ∷ codes "b" ∷ []) (file (codes "hi") 420) 0 7
    ∷ []

-- what a walk of `/d` gives, sorted by file name
abbrev pub d_items : List Item
d_items =
    item (codes "/d") kind.Directory 0 0
    ∷ item (codes "/d/a") kind.File 1 3
    ∷ item (codes "/d/e") kind.File 1 4
    ∷ item (codes "/d/l") kind.Link 1 5
    ∷ item (codes "/d/s") kind.Directory 1 6
    ∷ item (codes "/d/s/b") kind.File 2 7
    ∷ []

-- the place of these names in `p`
abbrev pub in_p : NameList → NameList
in_p names = codes "p" ∷ names

abbrev pub one : Content
one = file (codes "one") 416

-- a directory `p` with the files `a.log`, `b.txt` and `k.log`, and a directory `build` with a file `x.txt`
abbrev pub p_nodes : List (NameList × Node)
p_nodes =
    entry [] directory 0 1
    ∷ entry (in_p []) directory 0 2
    ∷ entry (in_p (codes "a.log" ∷ [])) one 0 3
    ∷ entry (in_p (codes "b.txt" ∷ [])) one 0 4
    ∷ entry (in_p (codes "build" ∷ [])) directory 0 5
    ∷ entry (in_p (codes "build" ∷ codes "x.txt" ∷ [])) one 0 6
    ∷ entry (in_p (codes "k.log" ∷ [])) one 0 7
    ∷ []

-- `build/`, `*.log` and `!k.log`
abbrev pub p_rules : List Rule
p_rules = in_build ∷ no_logs ∷ keep_k ∷ []
