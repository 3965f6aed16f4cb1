use Rattle.std.proofs.Common.{◌≡◌, ◌++◌, map, take}
use Rattle.view_folder.specs.declared.file.File.{File}
use Rattle.view_folder.proofs.comparison.with_names.Given as goal

abbrev pub invariant-loop-file : goal.invariant-loop-file
invariant-loop-file l = l.names.items ≡ l.fn.names.items ++ map (λ (f : File). f.name) (take l.file-index l.files)
