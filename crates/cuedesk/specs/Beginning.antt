-- What a desk begins with.
use Rattle.std.specs.Prelude.{◌≡◌, ℕ, List, [], Option, None, Some, option_and_then}
use Rattle.cue_desk.specs.Ports.{port_of}
use Rattle.cue_show_file.specs.Together.{groups_in}
use Rattle.cue_show_file.specs.declared.file.ShowFile.{ShowFile}
use Rattle.cue_show_file.specs.declared.together.Group.{Group}

-- the cues that a file has stood by together; none without a file
abbrev pub together_in : Option ShowFile → List Group
together_in None = []
together_in (Some file) = groups_in file

-- Port and companions are those of the file that is shown first; the port that was said goes before that of the file.
pub record IsBegun (said : Option ℕ) (file : Option ShowFile) (port : ℕ) (together : List Group) : Type 0 where
  pub port_is : port ≡ port_of said (option_and_then (λ f. f.port) file)
  pub together_is : together ≡ together_in file
