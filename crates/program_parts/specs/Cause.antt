-- Why a file can't be read or written, in words.
use Rattle.std.specs.Prelude.{ℕ, ◌==◌, List, [], ◌∷◌, ◌++◌, codes, if◌then◌else◌}
use Rattle.std.specs.declared.io.ErrorKind.{ErrorKind}
use Rattle.std.specs.declared.io.ErrorKind.TheVariants as kind

-- the words for the kind of an error; none if it says nothing more, or if a file is not there
abbrev pub cause_text : ErrorKind → List ℕ
cause_text kind.PermissionDenied = codes "permission denied"
cause_text kind.AlreadyExists = codes "another file is in the way"
cause_text kind.NotADirectory = codes "a part of its name is not a folder"
cause_text kind.IsADirectory = codes "it is a folder"
cause_text kind.ReadOnlyFilesystem = codes "the file system is read-only"
cause_text kind.FilesystemLoop = codes "too many links lead to it"
cause_text kind.InvalidInput = codes "the file system refuses it"
cause_text kind.StorageFull = codes "no space left"
cause_text kind.QuotaExceeded = codes "the quota is used up"
cause_text kind.FileTooLarge = codes "the file would be too large"
cause_text kind.ResourceBusy = codes "it is in use"
cause_text kind.InvalidFilename = codes "its name is too long"
cause_text _ = []

-- What is said for each error of the system that says why, by its number in Linux. The names are
-- those of POSIX: EPERM, EACCES, EBUSY, EEXIST, ENOTDIR, EISDIR, EINVAL, EFBIG, ENOSPC, EROFS,
-- ENAMETOOLONG, ELOOP; and EDQUOT.
abbrev pub system_causes : List (ℕ × List ℕ)
system_causes =
    (1, codes "permission denied")
    ∷ (13, codes "permission denied")
    ∷ (16, codes "it is in use")
    ∷ (17, codes "another file is in the way")
    ∷ (20, codes "a part of its name is not a folder")
    ∷ (21, codes "it is a folder")
    ∷ (22, codes "the file system refuses it")
    ∷ (27, codes "the file would be too large")
    ∷ (28, codes "no space left")
    ∷ (30, codes "the file system is read-only")
    ∷ (36, codes "its name is too long")
    ∷ (40, codes "too many links lead to it")
    ∷ (122, codes "the quota is used up")
    ∷ []

-- the words for an error of the system; none for an error that is not listed
abbrev pub system_cause : ℕ → List (ℕ × List ℕ) → List ℕ
system_cause number [] = []
system_cause number (row ∷ rows) = if number == row.0 then row.1 else system_cause number rows

-- a line of a program on standard error
unfoldable pub error_line : List ℕ → List ℕ → List ℕ
error_line program reason = program ++ (codes ": " ++ (reason ++ 10 ∷ []))

-- the line of a cause; none if nothing is known of it
unfoldable pub cause_line : List ℕ → List ℕ → List ℕ
cause_line program [] = []
cause_line program (c ∷ cause) = error_line program (c ∷ cause)
