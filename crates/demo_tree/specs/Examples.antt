-- What worked examples speak of.
use Rattle.std.specs.Prelude.{ℕ, List, map}
use Rattle.sd_io.specs.Tree.{NameList}
use Rattle.demo_tree.specs.Demo.{DemoFile, demo_files}

abbrev pub places_of_demo : ℕ → List NameList
places_of_demo n = map (λ (found : DemoFile). found.place) (demo_files n)

abbrev pub texts_of_demo : ℕ → List (List ℕ)
texts_of_demo n = map (λ (found : DemoFile). found.bytes) (demo_files n)
