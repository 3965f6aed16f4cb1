-- How a folder compares with the files that are meant.
use Rattle.std.specs.Prelude.{Bool, not, List, ◌++◌, map, filter, find, length, Option, Some, None, option_map, if◌then◌else◌}
use Rattle.std.specs.Option.{option_eq, option_map_or}
use Rattle.ss_text.specs.Texts.{Text, text_eq, text_cmp}
use Rattle.ss_text.specs.Ascending.{ascending}
use Rattle.outside.specs.Tree.{Tree, file_at, files_of}
use Rattle.view_folder.specs.declared.file.File.{File}
use Rattle.view_folder.specs.declared.comparison.Comparison.{Comparison}
use Rattle.view_folder.specs.declared.comparison.Comparison.TheVariants.{Same, Differs}
use Rattle.view_folder.specs.Files.{bytes_in, is_csv_name}

-- those of these names that end in `.csv`, and the names of the files, each once, ascending
abbrev pub compared_names : List File → List Text → List Text
compared_names files names = ascending text_cmp (filter is_csv_name names ++ map (λ (f : File). f.name) files)

-- the difference between what is held and what is meant under a name, by their lengths, where there is one
abbrev pub difference : Text → Option Text → Option Text → Option Comparison
difference name held meant = if not (option_eq text_eq held meant) then Some (Differs name (option_map length held) (option_map length meant)) else None

-- whether the folder holds under a name other than is meant
abbrev pub differs_at : Text → List File → Tree → Text → Bool
differs_at folder files t name = not (option_eq text_eq (file_at t folder name) (bytes_in files name))

-- the difference under a name, with the lengths of what is held and of what is meant
abbrev pub difference_at : Text → List File → Tree → Text → Comparison
difference_at folder files t name = Differs name (option_map length (file_at t folder name)) (option_map length (bytes_in files name))

-- the first of these names at which the folder differs, else how many files there are
abbrev pub compared : Text → List File → Tree → List Text → Comparison
compared folder files t names = option_map_or (difference_at folder files t) (find (differs_at folder files t) names) (Same (length files))

-- the least name at which the folder differs, else how many files there are
abbrev pub comparison : Text → List File → Tree → Comparison
comparison folder files t = compared folder files t (compared_names files (files_of t folder))
