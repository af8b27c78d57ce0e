pub mod OneKind
pub mod SomeArtifact
mod PutBehind
